-- Writing script templates (Wish 6): objects in order, as bytes that the caller lends, and their data in a source that he lends too. Assumes nothing.
use Rattle.std.specs.Prelude.{ℕ, ◌+◌, ◌/◌, ◌%◌, ◌≡◌, Bool, true, ◌&&◌, ◌||◌, not, cond, List, [], ◌∷◌, ◌++◌, eqb, leb, length, take, drop, Result}
use Rattle.std.specs.Result.{result_unwrap_or}
use Rattle.answers.specs.declared.Refusal.{Refusal}
use Rattle.answers.specs.declared.Refusal.TheVariants.{Input, NoRoom, BadObject}
use Rattle.answers.specs.Refusals.{number}
use Rattle.answers.specs.Answers.{number_told}
use Rattle.octets.specs.Laid.{laid}
use Rattle.shapes.specs.Length.{largest, length_field}
use Rattle.templates.specs.declared.Holder.{Holder}
use Rattle.templates.specs.declared.Holder.TheVariants.{Outer}
use Rattle.templates.specs.declared.Object.{Object}
use Rattle.templates.specs.Grammar.{tag_bytes, head_size}
use Rattle.templates.specs.Lent.{objects_in}
use Rattle.templates.specs.Reading.{stands, after, within, is_template, is_data, length_fits, judged}

-- "data outside the source, or above 255 bytes"; an object that has no data of its own is taken for a template
unfoldable pub lies : List ℕ → Object → Bool
lies s o = not (is_data o.tag) || (leb o.length largest && leb (o.place + o.length) (length s))

unfoldable pub all_lie : List ℕ → List Object → Bool
all_lie s [] = true
all_lie s (o ∷ os) = lies s o && all_lie s os

-- the length of an object's data: its own, or of a template n, the bytes of the objects in it
unfoldable pub own_length : Object → ℕ → ℕ
own_length o n = cond (is_data o.tag) o.length n

-- the bytes that an object of length n adds to those of the objects in it
unfoldable pub added_by : Object → ℕ → ℕ
added_by o n = head_size o.tag n + own_length o 0

-- the bytes of the objects that follow an object of level l and stand in it: those ahead of the next at its level or above
unfoldable pub bytes_within : ℕ → List Object → ℕ
bytes_within l [] = 0
bytes_within l (o ∷ os) = cond (leb o.level l) 0 (added_by o (own_length o (bytes_within o.level os)) + bytes_within l os)

unfoldable pub length_of_first : Object → List Object → ℕ
length_of_first o os = own_length o (bytes_within o.level os)

-- what is written: of each object its tag and length field, and then its data, or the objects in it, which are the next
unfoldable pub data_in : List ℕ → Object → List ℕ
data_in s o = cond (is_data o.tag) (take o.length (drop o.place s)) []

unfoldable pub bytes_of : List ℕ → List Object → List ℕ
bytes_of s [] = []
bytes_of s (o ∷ os) = tag_bytes o.tag ++ (length_field (length_of_first o os) ++ (data_in s o ++ bytes_of s os))

-- Where an object may stand: holders are open at levels 1 to d, h the innermost, and those outside it are the top and e1s, since a 71 or 72 holds no template
unfoldable pub open_at : ℕ → Holder → ℕ → Holder
open_at d h l = cond (eqb l d) h Outer

-- "tag or level out of place, 9f18 not of 4, a template that would hold more than 255 bytes": an object of length n
unfoldable pub placed : ℕ → Holder → Object → ℕ → Bool
placed d h o n =
    leb 1 o.level
    && (leb o.level d && (stands (open_at d h o.level) o.tag && (length_fits o.tag o.length && leb n largest)))

-- the innermost holder after an object, and its level
unfoldable pub level_after : Object → ℕ
level_after o = cond (is_template o.tag) (o.level + 1) o.level

unfoldable pub holder_after : ℕ → Holder → Object → Holder
holder_after d h o = cond (is_template o.tag) (within o.tag) (after (open_at d h o.level))

-- object by object, c ahead of the first
unfoldable pub fault_from : ℕ → Holder → ℕ → List Object → ℕ
fault_from d h c [] = 0
fault_from d h c (o ∷ os) =
    cond (eqb (judged (placed d h o (length_of_first o os)) o.level c) 0)
    (fault_from (level_after o) (holder_after d h o) (c + 1) os)
    (judged (placed d h o (length_of_first o os)) o.level c)

-- "none at all" is 16
unfoldable pub objects_fault : List Object → ℕ
objects_fault os = cond (eqb (length os) 0) (number BadObject) (fault_from 1 Outer 0 os)

-- the objects that lent bytes say
unfoldable pub said : List ℕ → List Object
said b = objects_in (length b / 10) b

-- the number: 1, then the objects', "and 3 last"
unfoldable pub check_number : List ℕ → List ℕ → ℕ
check_number b s = cond (eqb (length b % 10) 0 && all_lie s (said b)) (objects_fault (said b)) (number Input)

unfoldable pub write_number : List ℕ → List ℕ → List ℕ → ℕ → ℕ
write_number b s out at =
    cond (eqb (check_number b s) 0) (cond (leb (at + length (bytes_of s (said b))) (length out)) 0 (number NoRoom)) (check_number b s)

-- how many bytes are written, and the buffer afterwards: as it was on a refusal
unfoldable pub write_size : List ℕ → List ℕ → List ℕ → ℕ → ℕ
write_size b s out at = cond (eqb (write_number b s out at) 0) (length (bytes_of s (said b))) 0

unfoldable pub write_after : List ℕ → List ℕ → List ℕ → ℕ → List ℕ
write_after b s out at = cond (eqb (write_number b s out at) 0) (laid out at (bytes_of s (said b))) out

-- number, size and buffer are those of the answer r
pub record Wrote (b s out : List ℕ) (at : ℕ) (r : Result ℕ Refusal) (end : List ℕ) : Type 0 where
  pub code_is : number_told r ≡ write_number b s out at
  pub size_is : result_unwrap_or r 0 ≡ write_size b s out at
  pub buffer_is : end ≡ write_after b s out at
