-- What the entry points answer, for every input, in 01's order of refusals. Assumes nothing.
use Rattle.std.specs.Prelude.{ℕ, ◌+◌, ◌≡◌, ◌&&◌, cond, List, leb, eqb, length, Result, Ok, Err}
use Rattle.answers.specs.declared.Refusal.{Refusal}
use Rattle.answers.specs.declared.Refusal.TheVariants.{Input, NoRoom, ShapeWrong, CodeDiffers}
use Rattle.answers.specs.Refusals.{number}
use Rattle.octets.specs.Laid.{laid}
use Rattle.shapes.specs.declared.Found.{Found}
use Rattle.shapes.specs.Rules.{Rules, present}
use Rattle.shapes.specs.Shape.{tag_fits, size_of_under, shape_under}
use Rattle.shapes.specs.Answers.{found_in_under}
use Rattle.message.specs.Code.{message_under, given, code_fits_under}

-- opening: 1, 4, 8
unfoldable pub open_number_under : Rules → List ℕ → List ℕ → List ℕ → ℕ
open_number_under k key header m =
    cond (given key header) (cond (shape_under k m) (cond (code_fits_under k key header m) 0 (number CodeDiffers)) (number ShapeWrong)) (number Input)

abbrev pub open_number : List ℕ → List ℕ → List ℕ → ℕ
open_number = open_number_under present

unfoldable pub opened_under : Rules → List ℕ → List ℕ → List ℕ → Result Found Refusal
opened_under k key header m =
    cond (given key header)
    (cond (shape_under k m) (cond (code_fits_under k key header m) (Ok (found_in_under k m)) (Err CodeDiffers)) (Err ShapeWrong))
    (Err Input)

abbrev pub opened : List ℕ → List ℕ → List ℕ → Result Found Refusal
opened = opened_under present

-- wrapping: 1 (key, header, tag, L), 3 (the message does not fit from the place on)
unfoldable pub wrap_number_under : Rules → List ℕ → List ℕ → ℕ → ℕ → ℕ → ℕ → ℕ
wrap_number_under k key header tag n size place =
    cond (given key header && (tag_fits tag && leb n k.largest)) (cond (leb (place + size_of_under k n) size) 0 (number NoRoom)) (number Input)

abbrev pub wrap_number : List ℕ → List ℕ → ℕ → ℕ → ℕ → ℕ → ℕ
wrap_number = wrap_number_under present

-- a number of 01 and the buffer after
pub record Written : Type 0 where
  pub code : ℕ
  pub buffer : List ℕ

-- "writes the message at a place the caller names in a lent buffer, from there on, and every other byte there stays"; a refusal writes nothing
unfoldable pub wrapped_under : Rules → List ℕ → List ℕ → ℕ → List ℕ → List ℕ → ℕ → Written
wrapped_under k key header tag d b place =
    cond (eqb (wrap_number_under k key header tag (length d) (length b) place) 0)
    (record { code = 0; buffer = laid b place (message_under k key header tag d) })
    (record { code = wrap_number_under k key header tag (length d) (length b) place; buffer = b })

abbrev pub wrapped : List ℕ → List ℕ → ℕ → List ℕ → List ℕ → ℕ → Written
wrapped = wrapped_under present

-- number r and buffer b are those of w
pub record Wrote (w : Written) (r : ℕ) (b : List ℕ) : Type 0 where
  pub code : r ≡ w.code
  pub buffer : b ≡ w.buffer
