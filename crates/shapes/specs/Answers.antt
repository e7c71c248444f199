-- What the shape of a message answers, for every input. Assumes nothing.
use Rattle.std.specs.Prelude.{ℕ, ◌≡◌, cond, List, [], ◌∷◌, eqb, Result, Ok, Err}
use Rattle.answers.specs.declared.Refusal.{Refusal}
use Rattle.answers.specs.declared.Refusal.TheVariants.{ShapeWrong}
use Rattle.answers.specs.Refusals.{number}
use Rattle.answers.specs.Answers.{number_told}
use Rattle.shapes.specs.declared.Found.{Found}
use Rattle.shapes.specs.Rules.{Rules, present}
use Rattle.shapes.specs.Shape.{tag_of, place_of, place_of_under, length_of, length_of_under, shape_under}

-- n bytes of data at a place, with a tag
abbrev pub found : ℕ → ℕ → ℕ → Found
found tag place n = record { tag = tag; place = place; length = n }

-- 01's number of an answer, 0 where it is no refusal, and its values: tag, place and length of the data
abbrev pub opened_number : Result Found Refusal → ℕ
opened_number = number_told

unfoldable pub opened_values : Result Found Refusal → List ℕ
opened_values (Ok f) = f.tag ∷ f.place ∷ f.length ∷ []
opened_values (Err q) = []

-- what an accepted message says: its tag, and the place and length of its data in it
abbrev pub found_in_under : Rules → List ℕ → Found
found_in_under k m = found (tag_of m) (place_of_under k (length_of_under k m)) (length_of_under k m)

abbrev pub found_in : List ℕ → Found
found_in = found_in_under present

-- the shape alone: 4
abbrev pub shape_number_under : Rules → List ℕ → ℕ
shape_number_under k m = cond (shape_under k m) 0 (number ShapeWrong)

abbrev pub shape_number : List ℕ → ℕ
shape_number = shape_number_under present

unfoldable pub shaped_under : Rules → List ℕ → Result Found Refusal
shaped_under k m = cond (shape_under k m) (Ok (found_in_under k m)) (Err ShapeWrong)

abbrev pub shaped : List ℕ → Result Found Refusal
shaped = shaped_under present

-- 01: "For any answer that is an enum, a definition gives this paper's number and values for each case. The promises use that definition."
pub record Tells (r o : Result Found Refusal) (n : ℕ) (m : List ℕ) : Type 0 where
  pub is : r ≡ o
  pub its_number : opened_number r ≡ n
  pub its_values : opened_values r ≡ cond (eqb n 0) (tag_of m ∷ place_of (length_of m) ∷ length_of m ∷ []) []
