-- The writers of a message, and what wrapping answers, test by test. Assumes nothing.
use mathlib.Core.Path.{◌≡◌, refl, sym, ap, ap₂, ◌∙◌}
use mathlib.Core.Bool.{Bool, true, false, ◌&&◌, not, cond, and-false, and-eq-true_iff}
use mathlib.Core.List.{List, [], ◌∷◌, ◌++◌, append_assoc}
use Prim.Native.Nat.{ℕ, suc, ◌+◌, ◌-◌, ◌<◌, ◌≤◌}
use native.Mathlib.Nat.{add-zero}
use native.Mathlib.Numerals.{add-one}
use native.Mathlib.Omega.{arith}
use Rattle.std.specs.Prelude.{Result, Err}
use Rattle.std.specs.Result.{IsErrAnd}
use Rattle.std.proofs.lemmas.Result.{err_from_is_err_and}
use Rattle.answers.specs.declared.Refusal.{Refusal}
use Rattle.answers.specs.Refusals.{number}
use Rattle.answers.specs.Answers.{number_told}
use Rattle.answers.proofs.Laws.{not_zero}
use borrow.Author.Tests.{eq-eqb, ne_eqb, eqb-false, le-leb, lt-leb, leb-true, not-true, not-false}
use borrow.Rule.Slice.PartMut.{put_mid}
use lib.Dec.{leb}
use lib.ListN.{length, take, drop, set}
use Rattle.std.proofs.lemmas.Slice.{put_mid-paste}
use lib.Seq.{sets-eq, take-length, take-take}
use Rattle.shapes.specs.Length.{largest, largest_short, length_field}
use Rattle.shapes.specs.Shape.{place_of, tag_fits, code_head, body, body_under, body_size, body_size_under, size_of, size_of_under}
use Rattle.shapes.proofs.LengthLaws.{field_short, field_long, place_short, place_long, largest_small, place_small, length_head}
use Rattle.shapes.proofs.ShapeLaws.{length-body}
use Rattle.message.specs.Code.{code_for, message, message_under, given}
use Rattle.octets.specs.Laid.{laid}
use Rattle.message.specs.Answers.{wrap_number, wrap_number_under, wrapped, wrapped_under, Written, Wrote}
use Rattle.octets.proofs.LaidLaws.{length-laid, lent_length, laid_there, laid_laid, laid_lent}

-- the stores of a tag and a length field
pub tag_short : (b : List ℕ) (t n : ℕ) → n ≤ largest_short → place_of n ≤ length b → set (set b 0 t) 1 n ≡ laid b 0 (t ∷ length_field n)
unfolding laid
tag_short b t n h l =
    let p = place_short n h in
    sets-eq (t ∷ n ∷ []) b 0 (omega arith) ∙ ap (λ (f : List ℕ). laid b 0 (t ∷ f)) (sym (field_short n h))

pub tag_long : (b : List ℕ) (t n : ℕ) → largest_short < n → place_of n ≤ length b → set (set (set b 0 t) 1 0x81) 2 n ≡ laid b 0 (t ∷ length_field n)
unfolding laid
tag_long b t n h l =
    let p = place_long n h in
    sets-eq (t ∷ 0x81 ∷ n ∷ []) b 0 (omega arith) ∙ ap (λ (f : List ℕ). laid b 0 (t ∷ f)) (sym (field_long n h))

-- a string copied to its place
pub copied : (b : List ℕ) (p k : ℕ) (d y : List ℕ) → y ≡ d → k ≡ length d → put_mid p k b y ≡ laid b p d
unfolding laid
copied b p k d y e n =
    put_mid-paste p k b y d (length d) e (sym n) refl
    ∙ ap (λ (s : List ℕ). take p b ++ s ++ drop (p + length d) b) (take-length d)

-- the head of the code stored
head_stored : (b : List ℕ) (i : ℕ) → i + 2 ≤ length b → set (set b i 0x8e) (suc i) 0x04 ≡ laid b i code_head
unfolding laid code_head
head_stored b i l = sets-eq code_head b i l

-- data copied, and the head of the code after them
pub data_stored : (b : List ℕ) (p k : ℕ) (d y : List ℕ) → y ≡ d → k ≡ length d → p + length d + 2 ≤ length b
    → set (set (put_mid p k b y) (p + length d) 0x8e) (p + length d + 1) 0x04 ≡ laid b p (d ++ code_head)
unfolding code_head
data_stored b p k d y e m h =
    let n = p + length d in
    let l : length (laid b p d) ≡ length b = length-laid b p d (omega arith) in
    ap₂ (λ (x : List ℕ) (k : ℕ). set (set x n 0x8e) k 0x04) (copied b p k d y e m) (add-one n)
    ∙ head_stored (laid b p d) n (omega arith)
    ∙ laid_laid b p d (omega arith) code_head n refl

module _ (key header : List ℕ) (tag n size place : ℕ) where
  pub wrap_given : (g : Bool) → g ≡ given key header → not g ≡ true → 1 ≡ wrap_number key header tag n size place
  unfolding wrap_number_under
  wrap_given g e h = simp (sym e ∙ not-true g h)

  pub wrap_tag : (t : Bool) → t ≡ tag_fits tag → not t ≡ true → 1 ≡ wrap_number key header tag n size place
  unfolding wrap_number_under
  wrap_tag t e h = simp (sym e ∙ not-true t h, and-false)

  pub wrap_most : largest < n → 1 ≡ wrap_number key header tag n size place
  unfolding wrap_number_under
  wrap_most h = simp (lt-leb _ _ h, and-false)

  module _ (g : Bool) (e : g ≡ given key header) (h : not g ≡ false) (t : Bool) (f : t ≡ tag_fits tag) (i : not t ≡ false) (l : n ≤ largest) where
    pub wrap_place : size < place → 3 ≡ wrap_number key header tag n size place
    unfolding wrap_number_under
    wrap_place x = simp (sym e ∙ not-false g h, sym f ∙ not-false t i, le-leb _ _ l, lt-leb (place + size_of n) size (omega arith))

    module _ (x : place ≤ size) (p : ℕ) (q : p ≡ place_of n) where
      pub wrap_room : size - place < p + n + 6 → 3 ≡ wrap_number key header tag n size place
      unfolding wrap_number_under size_of_under body_size_under
      wrap_room y = simp (sym e ∙ not-false g h, sym f ∙ not-false t i, le-leb _ _ l, lt-leb (place + (place_of n + n + 2 + 4)) size (omega arith))

      pub wrap_fits : p + n + 6 ≤ size - place → 0 ≡ wrap_number key header tag n size place
      unfolding wrap_number_under size_of_under body_size_under
      wrap_fits y = simp (sym e ∙ not-false g h, sym f ∙ not-false t i, le-leb _ _ l, le-leb (place + (place_of n + n + 2 + 4)) size (omega arith))

-- what 0 says
pub record Room (key header : List ℕ) (tag n size place : ℕ) : Type 0 where
  pub are_given : given key header ≡ true
  pub tagged : tag_fits tag ≡ true
  pub most : n ≤ largest
  pub room : place + (place_of n + n + 6) ≤ size
  pub small_place : place_of n ≤ 3
  pub small_length : n ≤ 255

pub accepted : (key header : List ℕ) (tag n size place : ℕ) → wrap_number key header tag n size place ≡ 0 → Room key header tag n size place
unfolding wrap_number_under size_of_under body_size_under
accepted key header tag n size place e =
    go (given key header && (tag_fits tag && leb n largest)) refl (leb (place + (place_of n + n + 2 + 4)) size) refl e
  where
    go : (a : Bool) → (given key header && (tag_fits tag && leb n largest)) ≡ a → (b : Bool) → leb (place + (place_of n + n + 2 + 4)) size ≡ b
        → ◌≡◌ {A = ℕ} (cond a (cond b 0 3) 1) 0 → Room key header tag n size place
    go true f true g h =
        let x = (and-eq-true_iff (given key header) _).0 f in
        let y = (and-eq-true_iff (tag_fits tag) _).0 x.1 in
        let m : n ≤ largest = leb-true _ _ y.1 in
        let r : place + (place_of n + n + 2 + 4) ≤ size = leb-true _ _ g in
        record {
          are_given = x.0;
          tagged = y.0;
          most = m;
          room = omega arith;
          small_place = place_small n;
          small_length = omega (arith, largest_small);
        }
    go true f false g h = absurd (omega arith)
    go false f b g h = absurd (omega arith)

module _ (key header : List ℕ) (tag : ℕ) (d b : List ℕ) (place : ℕ) where
  pub wrap_refused : {A : Type 0} (r : Result A Refusal) → number_told r ≡ wrap_number key header tag (length d) (length b) place → (number_told r ≡ 0 → ⊥)
      → Wrote (wrapped key header tag d b place) (number_told r) b
  unfolding wrapped_under
  wrap_refused r e h =
      let w = ne_eqb (wrap_number key header tag (length d) (length b) place) 0 (λ z. h (e ∙ z)) in
      record { code = simp w e; buffer = simp w }

  pub wrap_err : {A : Type 0} (q : Refusal) (r : Result A Refusal) → number_told r ≡ wrap_number key header tag (length d) (length b) place → r ≡ Err q
      → {B : Type 0} (s : Result B Refusal) → IsErrAnd s (λ e. e ≡ q) → Wrote (wrapped key header tag d b place) (number_told s) b
  unfolding wrapped_under
  wrap_err q r e f s h =
      let p = err_from_is_err_and s h in
      let v : number_told s ≡ number q = ap number_told p.1 ∙ ap number p.2 in
      let u : wrap_number key header tag (length d) (length b) place ≡ number q = sym e ∙ ap number_told f in
      let w = ne_eqb (wrap_number key header tag (length d) (length b) place) 0 (λ z. eqb-false (number q) 0 (not_zero q) (sym u ∙ z)) in
      record { code = simp w (v ∙ sym u); buffer = simp w }

  pub wrap_accepted : wrap_number key header tag (length d) (length b) place ≡ 0
      → wrapped key header tag d b place ≡ record { code = 0; buffer = laid b place (message key header tag d) }
  unfolding wrapped_under
  wrap_accepted e = simp (eq-eqb _ _ e)

  -- the three writers, each lent the buffer from the place on
  module _ (z : wrap_number key header tag (length d) (length b) place ≡ 0) where
    abbrev first : List ℕ → List ℕ
    first x = put_mid place (length b - place) b x

    abbrev second : List ℕ → List ℕ → List ℕ
    second x y = put_mid place (length (first x) - place) (first x) y

    pub place_fits : place ≤ length b
    place_fits = let a = accepted key header tag (length d) (length b) place z in omega arith

    pub tag_room : place_of (length d) ≤ length (take (length b - place) (drop place b))
    tag_room =
        let a = accepted key header tag (length d) (length b) place z in
        let l = lent_length b place in
        omega arith

    module _ (x : List ℕ) (ex : x ≡ laid (take (length b - place) (drop place b)) 0 (tag ∷ length_field (length d))) where
      tag_laid : first x ≡ laid b place (tag ∷ length_field (length d))
      tag_laid =
          let a = accepted key header tag (length d) (length b) place z in
          laid_lent b place x 0 (tag ∷ length_field (length d)) (omega arith) ex ∙ ap (λ (k : ℕ). laid b k (tag ∷ length_field (length d))) (add-zero place)

      pub length-first : length (first x) ≡ length b
      length-first =
          let a = accepted key header tag (length d) (length b) place z in
          let p = length_head tag (length d) in
          ap length tag_laid ∙ length-laid b place (tag ∷ length_field (length d)) (omega arith)

      pub place_fits_first : place ≤ length (first x)
      place_fits_first = let l = length-first in let p = place_fits in omega arith

      pub data_room : place_of (length d) + length d + 2 ≤ length (take (length (first x) - place) (drop place (first x)))
      data_room =
          let a = accepted key header tag (length d) (length b) place z in
          let f = length-first in
          let l = lent_length (first x) place in
          omega arith

      module _ (y : List ℕ) (ey : y ≡ laid (take (length (first x) - place) (drop place (first x))) (place_of (length d)) (d ++ code_head)) where
        data_laid : second x y ≡ laid b place (body tag d)
        unfolding body_under
        data_laid =
            let f = tag ∷ length_field (length d) in
            let a = accepted key header tag (length d) (length b) place z in
            let p = length_head tag (length d) in
            let l = length-first in
            laid_lent (first x) place y (place_of (length d)) (d ++ code_head) (omega arith) ey
            ∙ ap (λ (s : List ℕ). laid s (place + place_of (length d)) (d ++ code_head)) tag_laid
            ∙ laid_laid b place f (omega arith) (d ++ code_head) (place + place_of (length d)) (omega arith)
            ∙ ap (laid b place) (sym (append_assoc f d code_head))

        pub length-second : length (second x y) ≡ length b
        unfolding body_size_under
        length-second =
            let a = accepted key header tag (length d) (length b) place z in
            let n : length (body tag d) ≡ place_of (length d) + length d + 2 = length-body tag d in
            ap length data_laid ∙ length-laid b place (body tag d) (omega arith)

        pub place_fits_second : place ≤ length (second x y)
        place_fits_second = let l = length-second in let p = place_fits in omega arith

        pub code_room : place_of (length d) + length d + 6 ≤ length (take (length (second x y) - place) (drop place (second x y)))
        code_room =
            let a = accepted key header tag (length d) (length b) place z in
            let f = length-second in
            let l = lent_length (second x y) place in
            omega arith

        -- what the code is made over
        body_there : take (body_size (length d)) (take (length (second x y) - place) (drop place (second x y))) ≡ body tag d
        unfolding body_size_under
        body_there =
            let a = accepted key header tag (length d) (length b) place z in
            let n : length (body tag d) ≡ place_of (length d) + length d + 2 = length-body tag d in
            let l = length-second in
            take-take (place_of (length d) + length d + 2) (length (second x y) - place) (drop place (second x y)) (omega arith)
            ∙ ap₂ (λ (k : ℕ) (s : List ℕ). take k (drop place s)) (sym n) data_laid
            ∙ laid_there b place (body tag d) (omega arith)

        pub wrap_done : (w : List ℕ)
            → w ≡ laid (take (length (second x y) - place) (drop place (second x y))) (body_size (length d)) (code_for key header (take (body_size (length d)) (take (length (second x y) - place) (drop place (second x y)))))
            → Wrote (wrapped key header tag d b place) 0 (put_mid place (length (second x y) - place) (second x y) w)
        unfolding message_under body_size_under
        wrap_done w ew =
            let a = accepted key header tag (length d) (length b) place z in
            let m = body tag d in
            let k = place_of (length d) + length d + 2 in
            let s = take (length (second x y) - place) (drop place (second x y)) in
            let n : length m ≡ k = length-body tag d in
            let l = length-second in
            let v = sym (wrap_accepted z) in
            record {
              code = ap (λ (r : Written). r.code) v;
              buffer =
                  laid_lent (second x y) place w k (code_for key header (take k s)) (omega arith) ew
                  ∙ ap₂ (λ (u c : List ℕ). laid u (place + k) (code_for key header c)) data_laid body_there
                  ∙ laid_laid b place m (omega arith) (code_for key header m) (place + k) (omega arith)
                  ∙ ap (λ (r : Written). r.buffer) v;
            }
