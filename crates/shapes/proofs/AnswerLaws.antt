-- What the shape of a message answers, test by test. Assumes nothing.
use mathlib.Core.Path.{◌≡◌, refl, sym, ap, ap₂, ◌∙◌}
use mathlib.Core.Bool.{Bool, true, false, not, cond, true≢false}
use mathlib.Core.List.{List, [], ◌∷◌}
use Prim.Native.Nat.{ℕ, ◌+◌, ◌<◌, ◌≤◌}
use native.Mathlib.Omega.{arith}
use Rattle.std.specs.Prelude.{Result, Ok, Err}
use borrow.Author.Tests.{not-true, not-false}
use lib.Dec.{eqb}
use lib.ListN.{length, get_or, take}
use lib.Seq.{length-take-le}
use Rattle.octets.specs.Same.{same}
use Rattle.answers.specs.declared.Refusal.{Refusal}
use Rattle.answers.specs.declared.Refusal.TheVariants.{ShapeWrong}
use Rattle.shapes.specs.declared.Found.{Found}
use Rattle.shapes.specs.Length.{largest}
use Rattle.shapes.specs.Shape.{length_of, place_of, tag_fits, code_head, tag_of, shape}
use Rattle.shapes.specs.Answers.{found, opened_number, opened_values, found_in, shaped, shaped_under, Tells}
use Rattle.shapes.proofs.LengthLaws.{largest_small, place_small}
use Rattle.shapes.proofs.ShapeLaws.{Good, good_shape, shape_good}

-- an answer of a number and of its values tells them
pub tells : (o : Result Found Refusal) (n : ℕ) (m : List ℕ) → opened_number o ≡ n
    → opened_values o ≡ cond (eqb n 0) (tag_of m ∷ place_of (length_of m) ∷ length_of m ∷ []) [] → {r : Result Found Refusal} → r ≡ o → Tells r o n m
tells o n m i v e = record { is = e; its_number = ap opened_number e ∙ i; its_values = ap opened_values e ∙ v }

pub number_shaped : (m : List ℕ) → opened_number (shaped m) ≡ cond (shape m) 0 4
unfolding shaped_under
number_shaped m = go (shape m)
  where
    go : (b : Bool) → opened_number (cond b (Ok (found_in m)) (Err ShapeWrong)) ≡ cond b 0 4
    go true = refl
    go false = refl

values_shaped : (m : List ℕ) → opened_values (shaped m) ≡ cond (eqb (cond (shape m) 0 4) 0) (tag_of m ∷ place_of (length_of m) ∷ length_of m ∷ []) []
unfolding shaped_under opened_values
values_shaped m = go (shape m)
  where
    go : (b : Bool) → opened_values (cond b (Ok (found_in m)) (Err ShapeWrong)) ≡ cond (eqb (cond b 0 4) 0) (tag_of m ∷ place_of (length_of m) ∷ length_of m ∷ []) []
    go true = refl
    go false = refl

pub tells_shaped : (m : List ℕ) {r : Result Found Refusal} → r ≡ shaped m → Tells r (shaped m) (cond (shape m) 0 4) m
tells_shaped m e = tells (shaped m) (cond (shape m) 0 4) m (number_shaped m) (values_shaped m) e

pub shaped_bad : (m : List ℕ) → shape m ≡ false → Err ShapeWrong ≡ shaped m
unfolding shaped_under
shaped_bad m e = simp e

pub shaped_good : (m : List ℕ) → shape m ≡ true → Ok (found_in m) ≡ shaped m
unfolding shaped_under
shaped_good m e = simp e

-- one law for each way out of the test of a shape
module _ (m : List ℕ) where
  not_good : (Good m → ⊥) → Err ShapeWrong ≡ shaped m
  not_good h = go (shape m) refl
    where
      go : (b : Bool) → shape m ≡ b → Err ShapeWrong ≡ shaped m
      go true e = absurd (h (shape_good m e))
      go false e = shaped_bad m e

  module _ (n : ℕ) (e : n ≡ length_of m) where
    pub shape_most : largest < n → Err ShapeWrong ≡ shaped m
    shape_most h = not_good (λ g. let l = g.most in omega arith)

    module _ (p : ℕ) (f : p ≡ place_of n) where
      at-end : p + n ≡ place_of (length_of m) + length_of m
      at-end = ap₂ (λ (x y : ℕ). x + y) (f ∙ ap place_of e) e

      pub shape_long : (length m ≡ p + n + 6 → ⊥) → Err ShapeWrong ≡ shaped m
      shape_long h = not_good (λ g. h (g.long ∙ ap (λ (k : ℕ). k + 6) (sym at-end)))

      pub shape_tag : (t : Bool) → t ≡ tag_fits (get_or m 0 0) → not t ≡ true → Err ShapeWrong ≡ shaped m
      unfolding tag_of
      shape_tag t w h = not_good (λ g. true≢false (sym g.tagged ∙ sym w ∙ not-true t h))

      pub shape_head : (t : Bool) → t ≡ same (get_or m (p + n) 0 ∷ get_or m (p + n + 1) 0 ∷ []) code_head → not t ≡ true → Err ShapeWrong ≡ shaped m
      shape_head t w h =
          not_good
          (λ g. true≢false (sym g.headed ∙ ap (λ (k : ℕ). same (get_or m k 0 ∷ get_or m (k + 1) 0 ∷ []) code_head) (sym at-end) ∙ sym w ∙ not-true t h))

      pub shape_yes : n ≤ largest → length m ≡ p + n + 6 → (t : Bool) → t ≡ tag_fits (get_or m 0 0) → not t ≡ false → (u : Bool)
          → u ≡ same (get_or m (p + n) 0 ∷ get_or m (p + n + 1) 0 ∷ []) code_head → not u ≡ false → Ok (found (get_or m 0 0) p n) ≡ shaped m
      unfolding tag_of
      shape_yes a b t w h u v i =
          let g : Good m =
          record {
            most = omega arith;
            long = b ∙ ap (λ (k : ℕ). k + 6) at-end;
            tagged = sym w ∙ not-false t h;
            headed = ap (λ (k : ℕ). same (get_or m k 0 ∷ get_or m (k + 1) 0 ∷ []) code_head) (sym at-end) ∙ sym v ∙ not-false u i;
          }
          in
          ap₂ (λ (x y : ℕ). Ok (found (get_or m 0 0) x y)) (f ∙ ap place_of e) e ∙ shaped_good m (good_shape m g)

-- the answer about a shape, taken apart
pub record Told (m : List ℕ) (t p n : ℕ) : Type 0 where
  pub good : shape m ≡ true
  pub the_tag : t ≡ tag_of m
  pub the_place : p ≡ place_of (length_of m)
  pub the_length : n ≡ length_of m
  pub the_size : length m ≡ p + n + 6
  pub small_place : p ≤ 3
  pub small_length : n ≤ 255

pub told_data : (m : List ℕ) (r : Result Found Refusal) (f : Found) → Tells r (shaped m) (cond (shape m) 0 4) m → r ≡ Ok f → Told m f.tag f.place f.length
told_data m r f a e = go (shape m) refl
  where
    go : (b : Bool) → shape m ≡ b → Told m f.tag f.place f.length
    go true g =
        let w : Ok f ≡ Ok (found_in m) = sym e ∙ a.is ∙ sym (shaped_good m g) in
        let v : f ≡ found_in m = cc in
        let q : f.place ≡ place_of (length_of m) = ap (λ (x : Found). x.place) v in
        let k : f.length ≡ length_of m = ap (λ (x : Found). x.length) v in
        let o = shape_good m g in
        let s = place_small (length_of m) in
        let l = o.most in
        record {
          good = g;
          the_tag = ap (λ (x : Found). x.tag) v;
          the_place = q;
          the_length = k;
          the_size = o.long ∙ ap₂ (λ (x y : ℕ). x + y + 6) (sym q) (sym k);
          small_place = omega arith;
          small_length = omega (arith, largest_small);
        }
    go false g =
        let w : Ok f ≡ Err ShapeWrong = sym e ∙ a.is ∙ sym (shaped_bad m g) in
        let z : ◌≡◌ {A = ℕ} 0 1 = cc in
        absurd (omega arith)

-- what stands before the code fits the string under it
pub told_body : (m : List ℕ) (t p n : ℕ) → Told m t p n → length (take (p + n + 2) m) + 1 ≤ 264
told_body m t p n w = let l = length-take-le (p + n + 2) m (omega arith) in omega arith

-- what is refused has not the shape, and for no other reason
pub told_refused : (m : List ℕ) (r : Result Found Refusal) (q : Refusal) → Tells r (shaped m) (cond (shape m) 0 4) m → r ≡ Err q → shape m ≡ false
told_refused m r q a e = go (shape m) refl
  where
    go : (b : Bool) → shape m ≡ b → shape m ≡ false
    go false g = g
    go true g =
        let w : Err q ≡ Ok (found_in m) = sym e ∙ a.is ∙ sym (shaped_good m g) in
        let z : ◌≡◌ {A = ℕ} 0 1 = cc in
        absurd (omega arith)

pub why_refused : (m : List ℕ) (r : Result Found Refusal) (q : Refusal) → Tells r (shaped m) (cond (shape m) 0 4) m → r ≡ Err q → q ≡ ShapeWrong
why_refused m r q a e =
    let w : Err q ≡ Err ShapeWrong = sym e ∙ a.is ∙ sym (shaped_bad m (told_refused m r q a e)) in
    cc

-- what is no data is refused
pub told_other : (m : List ℕ) (r : Result Found Refusal) → Tells r (shaped m) (cond (shape m) 0 4) m → ((f : Found) → r ≡ Ok f → ⊥) → shape m ≡ false
told_other m r a f = go (shape m) refl
  where
    go : (b : Bool) → shape m ≡ b → shape m ≡ false
    go false g = g
    go true g = absurd (f _ (a.is ∙ sym (shaped_good m g)))
