-- The script commands (01, The soft card, Script). Assumes nothing.
use Rattle.std.specs.Prelude.{ℕ, ◌≡◌, Bool, ◌&&◌, cond, List, [], ◌∷◌, eqb, Result, Ok, Err}
use Rattle.answers.specs.declared.Refusal.{Refusal}
use Rattle.answers.specs.declared.Refusal.TheVariants.{NotListed}
use Rattle.answers.specs.Refusals.{number}
use Rattle.answers.specs.Answers.{number_told}
use Rattle.octets.specs.Same.{same}
use Rattle.shapes.specs.declared.command.Command.{Command}
use Rattle.shapes.specs.declared.command.Command.TheVariants.{SetPin, SetMark, ClearMark}

-- class, instruction and parameters
unfoldable pub header_of : Command → List ℕ
header_of SetPin = 0x84 ∷ 0x24 ∷ 0x00 ∷ 0x02 ∷ []
header_of SetMark = 0x84 ∷ 0x1e ∷ 0x00 ∷ 0x00 ∷ []
header_of ClearMark = 0x84 ∷ 0x18 ∷ 0x00 ∷ 0x00 ∷ []

-- tag of the data
unfoldable pub tag_for : Command → ℕ
tag_for SetPin = 0x87
tag_for SetMark = 0x81
tag_for ClearMark = 0x81

-- L
unfoldable pub length_for : Command → ℕ
length_for SetPin = 8
length_for SetMark = 0
length_for ClearMark = 0

-- header, tag and L are those of a command
unfoldable pub is_for : Command → List ℕ → ℕ → ℕ → Bool
is_for c header tag n = same header (header_of c) && (eqb tag (tag_for c) && eqb n (length_for c))

-- the commands listed
unfoldable pub listed : List Command
listed = SetPin ∷ SetMark ∷ ClearMark ∷ []

-- the first of some commands that header, tag and L are for
unfoldable pub first_of : List Command → List ℕ → ℕ → ℕ → Result Command Refusal
first_of [] header tag n = Err NotListed
first_of (c ∷ cs) header tag n = cond (is_for c header tag n) (Ok c) (first_of cs header tag n)

-- the command that header, tag and L are for
abbrev pub command_of : List ℕ → ℕ → ℕ → Result Command Refusal
command_of = first_of listed

-- 01's number of an answer, whose value is the command: "class, instruction, parameters, tag or L not one listed" is 5
abbrev pub refusal : Result Command Refusal → ℕ
refusal = number_told

abbrev pub number_for : List Command → List ℕ → ℕ → ℕ → ℕ
number_for [] header tag n = number NotListed
number_for (c ∷ cs) header tag n = cond (is_for c header tag n) 0 (number_for cs header tag n)

pub record Lists (r : Result Command Refusal) (header : List ℕ) (tag n : ℕ) : Type 0 where
  pub is : r ≡ command_of header tag n
  pub its_number : refusal r ≡ number_for listed header tag n
