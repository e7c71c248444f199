-- What the entry points answer, test by test. Assumes nothing.
use mathlib.Core.Path.{◌≡◌, refl, sym, ap, ap₂, ◌∙◌}
use mathlib.Core.Bool.{Bool, true, false, not, cond}
use mathlib.Core.List.{List, [], ◌∷◌}
use Prim.Native.Nat.{ℕ, ◌+◌, ◌-◌}
use native.Mathlib.Omega.{arith}
use borrow.Author.Tests.{not-true, not-false}
use lib.Dec.{eqb}
use lib.ListN.{length, take, drop, length-drop}
use lib.Seq.{take_all}
use Rattle.octets.specs.Same.{same}
use Rattle.std.specs.Prelude.{Result, Ok, Err}
use Rattle.answers.specs.declared.Refusal.{Refusal}
use Rattle.answers.specs.declared.Refusal.TheVariants.{Input, ShapeWrong, CodeDiffers}
use Rattle.shapes.specs.declared.Found.{Found}
use Rattle.shapes.specs.Rules.{Rules, present}
use Rattle.shapes.specs.Shape.{length_of, place_of, tag_of, body_size_under, body_of_under, code_in_under, shape, shape_under}
use Rattle.shapes.specs.Answers.{found, found_in, found_in_under, opened_number, opened_values, Tells}
use Rattle.shapes.proofs.AnswerLaws.{tells, Told}
use Rattle.message.specs.Code.{code_for, given, code_fits, code_fits_under}
use Rattle.message.specs.Answers.{open_number, open_number_under, opened, opened_under}

-- under any rules the number told is that of the tests in their order
pub number_opened_under : (k : Rules) (key header m : List ℕ) → opened_number (opened_under k key header m) ≡ open_number_under k key header m
unfolding opened_under open_number_under
number_opened_under k key header m = go (given key header) (shape_under k m) (code_fits_under k key header m)
  where
    go : (a b c : Bool)
        → opened_number (cond a (cond b (cond c (Ok (found_in_under k m)) (Err CodeDiffers)) (Err ShapeWrong)) (Err Input)) ≡ cond a (cond b (cond c 0 8) 4) 1
    go true true true = refl
    go true true false = refl
    go true false c = refl
    go false b c = refl

pub number_opened : (key header m : List ℕ) → opened_number (opened key header m) ≡ open_number key header m
number_opened = number_opened_under present

values_opened : (key header m : List ℕ) → opened_values (opened key header m) ≡ cond (eqb (open_number key header m) 0) (tag_of m ∷ place_of (length_of m) ∷ length_of m ∷ []) []
unfolding opened_under open_number_under opened_values
values_opened key header m = go (given key header) (shape m) (code_fits key header m)
  where
    go : (a b c : Bool)
        → opened_values (cond a (cond b (cond c (Ok (found_in m)) (Err CodeDiffers)) (Err ShapeWrong)) (Err Input))
        ≡ cond (eqb (cond a (cond b (cond c 0 8) 4) 1) 0) (tag_of m ∷ place_of (length_of m) ∷ length_of m ∷ []) []
    go true true true = refl
    go true true false = refl
    go true false c = refl
    go false b c = refl

pub tells_opened : (key header m : List ℕ) {r : Result Found Refusal} → r ≡ opened key header m → Tells r (opened key header m) (open_number key header m) m
tells_opened key header m e = tells (opened key header m) (open_number key header m) m (number_opened key header m) (values_opened key header m) e

-- one law for each way out of the test of a code, and of opening
module _ (key header m : List ℕ) (g : Bool) (e : g ≡ given key header) where
  pub fits_given : not g ≡ true → false ≡ code_fits key header m
  unfolding code_fits_under
  fits_given h = simp (sym e ∙ not-true g h)

  pub open_given : not g ≡ true → Err Input ≡ opened key header m
  unfolding opened_under
  open_given h = simp (sym e ∙ not-true g h)

  module _ (h : not g ≡ false) where
    pub fits_shape : shape m ≡ false → false ≡ code_fits key header m
    unfolding code_fits_under
    fits_shape b = simp (sym e ∙ not-false g h, b)

    pub open_shape : shape m ≡ false → Err ShapeWrong ≡ opened key header m
    unfolding opened_under
    open_shape b = simp (sym e ∙ not-false g h, b)

    module _ (t p n : ℕ) (w : Told m t p n) where
      pub fits_code : (code : List ℕ) → code ≡ code_for key header (take (p + n + 2) m) → (r : Bool)
          → r ≡ same (take (length m - (p + n + 2)) (drop (p + n + 2) m)) code → r ≡ code_fits key header m
      unfolding code_fits_under code_in_under body_of_under body_size_under
      fits_code code a r b =
          let k : p + n + 2 ≡ place_of (length_of m) + length_of m + 2 = ap₂ (λ (x y : ℕ). x + y + 2) w.the_place w.the_length in
          b
          ∙ ap₂ same (take_all (length m - (p + n + 2)) (drop (p + n + 2) m) (omega (arith, length-drop (p + n + 2) m))) a
          ∙ ap (λ (x : ℕ). same (drop x m) (code_for key header (take x m))) k
          ∙ sym (simp (sym e ∙ not-false g h, w.good))

      module _ (r : Bool) (f : r ≡ code_fits key header m) where
        pub open_code : not r ≡ true → Err CodeDiffers ≡ opened key header m
        unfolding opened_under
        open_code i = simp (sym e ∙ not-false g h, w.good, sym f ∙ not-true r i)

        pub open_data : not r ≡ false → Ok (found t p n) ≡ opened key header m
        unfolding opened_under
        open_data i = simp (sym e ∙ not-false g h, w.good, sym f ∙ not-false r i, w.the_tag, w.the_place, w.the_length)
