-- How an answer reaches the slice that a caller lends for it. Assumes nothing.
use Rattle.std.specs.Prelude.{ℕ, ◌≡◌, ◌&&◌, cond, List, [], ◌∷◌, eqb, length, take, Option, Some, None, Result, Ok, Err}
use Rattle.std.specs.Result.{result_unwrap_or}
use Rattle.answers.specs.declared.Refusal.{Refusal}
use Rattle.answers.specs.declared.Refusal.TheVariants.{Input}
use Rattle.answers.specs.Refusals.{number}
use Rattle.answers.specs.Answers.{number_told}
use Rattle.pin.specs.declared.Pin.{Pin}
use Rattle.cryptogram.specs.declared.Kind.{Kind}
use Rattle.cryptogram.specs.Answers.{cryptogram_answer}
use Rattle.shapes.specs.declared.Found.{Found}
use Rattle.octets.specs.Numbers.{be_octets}
use Rattle.templates.specs.declared.Fault.{Fault}
use Rattle.templates.specs.declared.Read.{Read}
use Rattle.templates.specs.Lent.{laid_objects}
use Rattle.scripts.specs.Writing.{write_number, write_size, write_after}

-- the number returned: 1 for a lent slice that is not n bytes long, else the answer's own
unfoldable pub number_of : ℕ → Result (List ℕ) Refusal → List ℕ → ℕ
number_of n answer lent = cond (eqb (length lent) n) (number_told answer) (number Input)

-- the slice afterwards: the answer's bytes where it is accepted, and as it was where it is refused
unfoldable pub bytes_after : ℕ → Result (List ℕ) Refusal → List ℕ → List ℕ
bytes_after n answer lent = cond (eqb (length lent) n) (result_unwrap_or answer lent) lent

-- an answer of n bytes, given to a lent slice: r is returned, and the slice is `after`
pub record Given (n : ℕ) (answer : Result (List ℕ) Refusal) (lent : List ℕ) (r : ℕ) (after : List ℕ) : Type 0 where
  pub number : r ≡ number_of n answer lent
  pub slice : after ≡ bytes_after n answer lent

-- an answer whose value is given as bytes
abbrev pub as_bytes : {T : Type 0} → (T → List ℕ) → Result T Refusal → Result (List ℕ) Refusal
as_bytes f (Ok x) = Ok (f x)
as_bytes f (Err q) = Err q

-- an IDN has as many bytes as the slice lent for it
abbrev pub GivenIdn : Result (List ℕ) Refusal → List ℕ → ℕ → List ℕ → Type 0
GivenIdn a lent r after = Given (length lent) (as_bytes (take (length lent)) a) lent r after

-- what a PIN block holds: the number of digits, then the twelve places
abbrev pub pin_bytes : Pin → List ℕ
pin_bytes p = p.count ∷ p.digits

abbrev pub GivenRead : Result Pin Refusal → List ℕ → ℕ → List ℕ → Type 0
GivenRead a lent r after = Given 13 (as_bytes pin_bytes a) lent r after

-- a cryptogram whose kind is named by number: 1 for an unknown one
unfoldable pub by_number : List ℕ → Option Kind → ℕ → List ℕ → Result (List ℕ) Refusal
by_number key (Some kind) atc d = cryptogram_answer key kind atc d
by_number key None atc d = Err Input

-- a message opened: its tag, and the place and length of its data
abbrev pub found_bytes : Found → List ℕ
found_bytes f = f.tag ∷ f.place ∷ f.length ∷ []

abbrev pub GivenOpened : Result Found Refusal → List ℕ → ℕ → List ℕ → Type 0
GivenOpened o lent r after = Given 3 (as_bytes found_bytes o) lent r after

-- script templates: the objects, ten bytes each, zeros after the last; or why the first at fault is refused
abbrev pub unless : Option Fault → List ℕ → Result (List ℕ) Refusal
unless None bytes = Ok bytes
unless (Some f) bytes = Err f.why

abbrev pub GivenObjects : Read → List ℕ → ℕ → List ℕ → Type 0
GivenObjects a lent r after = Given 320 (unless a.fault (laid_objects a.objects)) lent r after

-- where the object at fault begins; 1 where none is
abbrev pub fault_place : Option Fault → Result (List ℕ) Refusal
fault_place (Some f) = Ok (be_octets 4 f.at)
fault_place None = Err Input

abbrev pub GivenFault : Read → List ℕ → ℕ → List ℕ → Type 0
GivenFault a lent r after = Given 4 (fault_place a.fault) lent r after

-- script templates written from objects b, whose data lie in the source s, into the buffer o at a place: 1 for a slice for the size that is not of 4 bytes
pub record GivenTemplates (b s o : List ℕ) (place : ℕ) (size : List ℕ) (r : ℕ) (o-after size-after : List ℕ) : Type 0 where
  pub number : r ≡ cond (eqb (length size) 4) (write_number b s o place) (number Input)
  pub buffer : o-after ≡ cond (eqb (length size) 4) (write_after b s o place) o
  pub slice : size-after ≡ cond (eqb (length size) 4 && eqb (write_number b s o place) 0) (be_octets 4 (write_size b s o place)) size
