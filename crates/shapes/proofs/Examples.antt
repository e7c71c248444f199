-- What else is 4 by its length field, beside P10 (Wish 1), and the largest message. Assumes nothing.
use mathlib.Core.Path.{◌≡◌, refl, sym}
use mathlib.Core.Bool.{true}
use mathlib.Core.List.{List, [], ◌∷◌}
use Prim.Native.Nat.{ℕ, ◌+◌, ◌≤◌}
use native.Mathlib.Omega.{arith}
use lib.Dec.{lit≤}
use lib.ListN.{length, get_or}
use Rattle.std.specs.Prelude.{Err}
use Rattle.answers.specs.declared.Refusal.TheVariants.{ShapeWrong}
use Rattle.shapes.specs.Length.{largest, largest_short, length_field}
use Rattle.shapes.specs.Shape.{length_of, length_of_under, place_of_under, body_size_under, size_of, size_of_under, shape}
use Rattle.shapes.specs.Answers.{shaped}
use Rattle.shapes.proofs.LengthLaws.{largest_small, place_small, says_low, says_other}
use Rattle.shapes.proofs.ShapeLaws.{shape_good}
use Rattle.shapes.proofs.AnswerLaws.{shape_most}

unread : (m : List ℕ) → length_of m ≡ largest + 1 → shaped m ≡ Err ShapeWrong
unread m e = sym (shape_most m (largest + 1) (sym e) (omega arith))

-- "81 7f is 4", and so is 81 before any byte below 80, whatever follows
pub low_after_81 : (t b : ℕ) (s : List ℕ) → b ≤ 0x7f → shaped (t ∷ 0x81 ∷ b ∷ s) ≡ Err ShapeWrong
unfolding largest_short length_of_under
low_after_81 t b s h = unread (t ∷ 0x81 ∷ b ∷ s) (says_low 0x81 b (lit≤ tt) h)

-- and 81 with nothing after it
pub cut_after_81 : (t : ℕ) → shaped (t ∷ 0x81 ∷ []) ≡ Err ShapeWrong
unfolding largest_short length_of_under
cut_after_81 t = unread (t ∷ 0x81 ∷ []) (says_low 0x81 0 (lit≤ tt) (lit≤ tt))

-- "no other form is read": byte 80 and 82 to ff
pub other_form : (t a : ℕ) (s : List ℕ) → 0x80 ≤ a → (a ≡ 0x81 → ⊥) → shaped (t ∷ a ∷ s) ≡ Err ShapeWrong
unfolding largest_short length_of_under
other_form t a s h e = unread (t ∷ a ∷ s) (says_other a (get_or s 0 0) h e)

-- "The largest message is 264 bytes"
pub largest_message : size_of largest ≡ 264
unfolding size_of_under body_size_under largest largest_short length_field place_of_under
largest_message = refl

pub size_most : (m : List ℕ) → shape m ≡ true → length m ≤ 264
size_most m e =
    let g = shape_good m e in
    let l = g.long in
    let n = g.most in
    omega (arith, largest_small, place_small (length_of m))
