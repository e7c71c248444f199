-- Answers as lines of digits. Assumes nothing.
use Prim.Native.Nat.{ℕ, suc, ◌+◌, ◌-◌, ◌*◌, ◌≤◌, ◌<◌}
use native.Mathlib.Omega.{arith}
use native.Mathlib.Numerals.{add-one}
use mathlib.Core.Path.{◌≡◌, refl, sym, ap, ap₂, ◌∙◌}
use mathlib.Core.Bool.{false}
use mathlib.Core.List.{List, [], ◌∷◌, ◌++◌, append_assoc, append-nil}
use lib.ListN.{length, get_or, take, drop, set, replicate, length-append}
use lib.Seq.{take_at, drop_at, set_at, take-suc, take_all, length-take-le}
use borrow.Author.Tests.{eq-eqb, ne_eqb}
use borrow.Rule.Slice.PartMut.{put_mid}
use Rattle.octets.specs.Digits.{hex_octet}
use Rattle.octets.proofs.Parts.{elements_all}
use Rattle.card.specs.declared.Reply.{Reply}
use Rattle.card.specs.Personalise.{personalised}
use Rattle.lines.specs.declared.Held.{Held}
use Rattle.lines.specs.declared.Said.{Said}
use Rattle.lines.specs.Lines.{hex_text, line_for}
use Rattle.lines.specs.Answers.{holding, nothing, numbered, octets_for, replied}
use Rattle.lines.specs.Said.{longest_answer, filled_to, said}

-- the digits of the first octets, and those of one more
hex_append : (a b : List ℕ) → hex_text (a ++ b) ≡ hex_text a ++ hex_text b
unfolding hex_text
hex_append [] b = refl
hex_append (x ∷ a) b = ap (λ (t : List ℕ). hex_octet x ++ t) (hex_append a b) ∙ sym (append_assoc (hex_octet x) (hex_text a) (hex_text b))

length-hex : (s : List ℕ) → length (hex_text s) ≡ 2 * length s
unfolding hex_text hex_octet
length-hex [] = refl
length-hex (x ∷ s) = let e = length-hex s in omega arith

one_more : (s : List ℕ) (i : ℕ) → i < length s → hex_text (take (i + 1) s) ≡ hex_text (take i s) ++ hex_octet (get_or s i 0)
unfolding hex_text
one_more s i h =
    ap (λ (j : ℕ). hex_text (take j s)) (add-one i)
    ∙ ap hex_text (take-suc s i 0 h)
    ∙ hex_append (take i s) (get_or s i 0 ∷ [])
    ∙ ap (λ (t : List ℕ). hex_text (take i s) ++ t) (append-nil (hex_octet (get_or s i 0)))

-- octets laid as digits one by one, and the line feed after them
module _ (s : List ℕ) (few : length s ≤ 10) where
  so_long : (i : ℕ) → i ≤ length s → length (hex_text (take i s)) ≡ 2 * i
  so_long i h = length-hex (take i s) ∙ ap (λ (k : ℕ). 2 * k) (length-take-le i s h)

  pub told_turn : (xs ys : List ℕ) (i : ℕ) → i < length s → ys ≡ hex_octet (get_or s i 0) → xs ≡ hex_text (take i s) ++ replicate (longest_answer - 2 * i) 0
      → put_mid (2 * i) (2 * i + 2 - 2 * i) xs ys ≡ hex_text (take (i + 1) s) ++ replicate (longest_answer - 2 * (i + 1)) 0
  told_turn xs ys i h e f =
      let p = hex_text (take i s) in
      let l : length p ≡ 2 * i = so_long i (omega arith) in
      let k : 2 * i + 2 - 2 * i ≡ 2 = omega arith in
      let n : longest_answer - 2 * i ≡ suc (suc (19 - 2 * i)) = omega arith in
      let m : longest_answer - 2 * (i + 1) ≡ 19 - 2 * i = omega arith in
      let r : List ℕ = 0 ∷ 0 ∷ replicate (19 - 2 * i) 0 in
      ap₂ (λ (j : ℕ) (x : List ℕ). put_mid (2 * i) j x ys) k (f ∙ ap (λ (z : ℕ). p ++ replicate z 0) n)
      ∙ ap₂ (λ (a b : List ℕ). a ++ (ys ++ drop 2 b)) (take_at p r (2 * i) l) (drop_at p r (2 * i) l)
      ∙ sym (append_assoc p ys (replicate (19 - 2 * i) 0))
      ∙ ap₂ (λ (a : List ℕ) (z : ℕ). a ++ replicate z 0) (ap (λ (t : List ℕ). p ++ t) e ∙ sym (one_more s i h)) (sym m)

  pub told_end : (h : Held) (xs : List ℕ) (i : ℕ) → i ≡ length s → xs ≡ hex_text (take i s) ++ replicate (longest_answer - 2 * i) 0
      → ◌≡◌ {A = Said} (record { held = h; count = 2 * length s + 1; answer = set xs (2 * length s) 10 }) (said (record { after = h; octets = s }))
  unfolding said filled_to line_for
  told_end h xs i e f =
      let t = hex_text s in
      let l : length t ≡ 2 * length s = length-hex s in
      let n : longest_answer - 2 * i ≡ suc (20 - 2 * length s) = omega arith in
      let c : length (t ++ 10 ∷ []) ≡ 2 * length s + 1 = length-append t (10 ∷ []) ∙ ap (λ (k : ℕ). k + 1) l in
      let m : longest_answer - length (t ++ 10 ∷ []) ≡ 20 - 2 * length s = omega arith in
      let w : xs ≡ t ++ 0 ∷ replicate (20 - 2 * length s) 0 =
      f ∙ ap₂ (λ (a : List ℕ) (z : ℕ). hex_text a ++ replicate z 0) (take_all i s (omega arith)) n
      in
      let a : set xs (2 * length s) 10 ≡ (t ++ 10 ∷ []) ++ replicate (longest_answer - length (t ++ 10 ∷ [])) 0 =
      ap (λ (x : List ℕ). set x (2 * length s) 10) w
      ∙ set_at t 0 (replicate (20 - 2 * length s) 0) 10 (2 * length s) l
      ∙ sym (append_assoc t (10 ∷ []) (replicate (20 - 2 * length s) 0))
      ∙ ap (λ (z : ℕ). (t ++ 10 ∷ []) ++ replicate z 0) (sym m)
      in
      ap₂ (λ (k : ℕ) (x : List ℕ). record { held = h; count = k; answer = x }) (sym c) a

-- eight octets, one by one
abbrev eight : List ℕ → List ℕ
eight b = get_or b 0 0 ∷ get_or b 1 0 ∷ get_or b 2 0 ∷ get_or b 3 0 ∷ get_or b 4 0 ∷ get_or b 5 0 ∷ get_or b 6 0 ∷ get_or b 7 0 ∷ []

all_eight : (b : List ℕ) → length b ≡ 8 → b ≡ eight b
all_eight b l = elements_all b 8 l

-- the answer to a frame that the card judged
module _ (f : ℕ) (p : Reply) (h : Held) (eh : h ≡ holding p.card) (x : Said) where
  pub replied_refused : (p.code ≡ 0 → ⊥) → x ≡ said (numbered h p.code) → x ≡ said (replied f p)
  unfolding replied octets_for
  replied_refused n e = e ∙ rw (eh, ne_eqb _ _ n)

  pub replied_opened : p.code ≡ 0 → length p.bytes ≡ 8 → f ≡ 1 → x ≡ said (record { after = h; octets = 0 ∷ p.kind ∷ eight p.bytes }) → x ≡ said (replied f p)
  unfolding replied octets_for
  replied_opened n l i e = e ∙ ap (λ (b : List ℕ). said (record { after = h; octets = 0 ∷ p.kind ∷ b })) (sym (all_eight p.bytes l)) ∙ rw (eh, eq-eqb _ _ n, eq-eqb _ _ i)

  pub replied_counted : p.code ≡ 0 → length p.bytes ≡ 8 → f ≡ 6 → x ≡ said (record { after = h; octets = 0 ∷ eight p.bytes }) → x ≡ said (replied f p)
  unfolding replied octets_for
  replied_counted n l i e = e ∙ ap (λ (b : List ℕ). said (record { after = h; octets = 0 ∷ b })) (sym (all_eight p.bytes l)) ∙ rw (eh, eq-eqb _ _ n, i)

  pub replied_plain : p.code ≡ 0 → (f ≡ 1 → ⊥) → (f ≡ 6 → ⊥) → x ≡ said (numbered h 0) → x ≡ said (replied f p)
  unfolding replied octets_for
  replied_plain n i j e = e ∙ rw (eh, eq-eqb _ _ n, ne_eqb _ _ i, ne_eqb _ _ j)

-- no record: what a refused personalisation gives
pub none_made : (z y : List ℕ) (p : Reply) → p ≡ personalised z z z 0 y 2 y 0 → ◌≡◌ {A = Held} (record { exists = false; card = p.card }) nothing
unfolding personalised
none_made z y p e = ap (λ (q : Reply). record { exists = false; card = q.card }) e
