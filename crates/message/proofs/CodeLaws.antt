-- The string under the code, and the code of it. Assumes nothing.
use mathlib.Core.Path.{◌≡◌, refl, sym, ap, ap₂, ◌∙◌}
use mathlib.Core.Bool.{true, and-eq-true_iff}
use mathlib.Core.List.{List, [], ◌∷◌, ◌++◌, append_assoc}
use Prim.Native.Nat.{ℕ, suc, ◌+◌, ◌-◌, ◌%◌, ◌≤◌}
use native.Mathlib.Omega.{arith}
use borrow.Author.Tests.{eq-eqb, eqb-true}
use lib.Dec.{eqb}
use lib.ListN.{length, take, drop, set, length-append, length-replicate}
use borrow.Rule.Slice.PartMut.{put_mid}
use Rattle.std.proofs.lemmas.Slice.{put_mid-paste}
use lib.Seq.{take_at, drop_at, drop-drop, set_at, take-length}
use Rattle.octets.proofs.Parts.{zeros, drop-zeros}
use Rattle.octets.specs.Lengths.{key_fits}
use Rattle.gost.specs.Gost.{subkeys}
use Rattle.std.specs.Prelude.{Result, Ok}
use Rattle.answers.specs.declared.Refusal.{Refusal}
use Rattle.cipher.specs.Code.{code_of}
use Rattle.cipher.specs.Answers.{coded}
use Rattle.cipher.proofs.AnswerLaws.{code_key, string_fits_lem}
use Rattle.message.specs.Code.{X, Y, code_for, given}

pub record Given (key header : List ℕ) : Type 0 where
  pub of_key : length key ≡ 32
  pub of_header : length header ≡ 4

-- and the other way round
pub given_so : (key header : List ℕ) → length key ≡ 32 → length header ≡ 4 → given key header ≡ true
unfolding given key_fits
given_so key header k h = simp (eq-eqb _ _ k, eq-eqb _ _ h)

pub given_lengths : (key header : List ℕ) → given key header ≡ true → Given key header
unfolding given key_fits
given_lengths key header e =
    let a = (and-eq-true_iff (eqb (length key) 32) (eqb (length header) 4)).0 e in
    record { of_key = eqb-true _ _ a.0; of_header = eqb-true _ _ a.1 }

module _ (header : List ℕ) (h : length header ≡ 4) where
  pub length_X : length (X header) ≡ 8
  unfolding X
  length_X = length-append header (0x80 ∷ 0x00 ∷ 0x00 ∷ 0x00 ∷ []) ∙ ap (λ (k : ℕ). k + 4) h

  -- X with room for Y
  pub block_made : (s : List ℕ) → s ≡ header → set (s ++ zeros 268) 4 0x80 ≡ X header ++ zeros 264
  unfolding X
  block_made s e =
      ap (λ (t : List ℕ). set (t ++ zeros 268) 4 0x80) e
      ∙ set_at header 0 (zeros 267) 0x80 4 h
      ∙ sym (append_assoc header (0x80 ∷ 0x00 ∷ 0x00 ∷ 0x00 ∷ []) (zeros 264))

  module _ (body : List ℕ) (l : length body + 1 ≤ 264) where
    -- the body is copied behind X, and 80 stored behind it
    pub string_made : (s y : List ℕ) (k : ℕ) → s ≡ X header ++ zeros 264 → y ≡ body → k ≡ length body
        → set (put_mid 8 k s y) (8 + length body) 0x80 ≡ X header ++ Y body
    unfolding Y
    string_made s y k es ey ek =
        let x = X header in
        let n = length body in
        let d = x ++ zeros 264 in
        let z = zeros (264 - (n + 1)) in
        let m : 264 - n ≡ suc (264 - (n + 1)) = omega arith in
        let r : drop (8 + n) d ≡ 0 ∷ z =
        sym (drop-drop n 8 d) ∙ ap (drop n) (drop_at x (zeros 264) 8 length_X) ∙ drop-zeros n 264 ∙ ap zeros m
        in
        let a : length (x ++ body) ≡ 8 + n = length-append x body ∙ ap (λ (k : ℕ). k + n) length_X in
        ap (λ (t : List ℕ). set t (8 + n) 0x80) (ap (λ (t : List ℕ). put_mid 8 k t y) es ∙ put_mid-paste 8 k d y body n ey (sym ek) refl)
        ∙ ap₂ (λ (y w : List ℕ). set (y ++ take n body ++ w) (8 + n) 0x80) (take_at x (zeros 264) 8 length_X) r
        ∙ ap (λ (y : List ℕ). set (x ++ y ++ 0 ∷ z) (8 + n) 0x80) (take-length body)
        ∙ set_at (x ++ body) 0 z 0x80 (8 + n) a
        ∙ append_assoc x body (0x80 ∷ z)

    pub length-string : length (X header ++ Y body) ≡ 272
    unfolding Y
    length-string =
        let z = length-replicate {A = ℕ} (264 - (length body + 1)) 0 in
        let x = length_X in
        simp (length-append) (omega arith)

-- the cipher answers, and its code is the message's
pub code_made : (key header body s : List ℕ) (r : Result (List ℕ) Refusal) → given key header ≡ true → length body + 1 ≤ 264 → s ≡ X header ++ Y body → r ≡ coded key s
    → r ≡ Ok (code_for key header body)
unfolding code_for
code_made key header body s r g l e f =
    let w = given_lengths key header g in
    let n : length s ≡ 272 = ap length e ∙ length-string header w.of_header body l in
    f
    ∙ sym (code_key key s w.of_key)
    ∙ sym (string_fits_lem (subkeys 8 key) s (omega arith) (ap (λ (k : ℕ). k % 8) n))
    ∙ ap (λ (t : List ℕ). Ok (code_of (subkeys 8 key) t)) e
