-- A desk, its calls, and a run of calls (Wish 7). Assumes nothing.
use Rattle.std.specs.Prelude.{ℕ, Bool, List, [], ◌∷◌, replicate}
use Rattle.table.specs.Calls.{empty}
use Rattle.desk.specs.declared.Desk.{Desk}
use Rattle.answers.specs.Answers.{number_told}
use Rattle.desk.specs.Desk.{adds, forgets, desk_after}
use Rattle.desk.specs.Check.{checks, after_check}
use Rattle.desk.specs.Wrap.{wraps}

-- what a desk is set up with: "the issuer's three master keys and, once for all its cards, whether card digits are taken by pairs or packed"
pub record Issuer : Type 0 where
  pub ac : List ℕ
  pub smi : List ℕ
  pub smc : List ℕ
  pub packed : Bool

-- the calls, each about a card by number and sequence number: Check has the data sent, the ARQC and the CSU; Wrap the instruction, the cryptogram
-- named, the PIN, the lent buffer and the place in it
pub data DeskCall : Type 0 where
  Add : List ℕ → ℕ → DeskCall
  Forget : List ℕ → ℕ → DeskCall
  Check : List ℕ → ℕ → List ℕ → List ℕ → List ℕ → DeskCall
  Wrap : List ℕ → ℕ → ℕ → List ℕ → List ℕ → List ℕ → ℕ → DeskCall

-- what a call is answered: its number, and its bytes: of Check the eight of the ARPC, of Wrap the lent buffer after it
pub record DeskAnswer : Type 0 where
  pub number : ℕ
  pub bytes : List ℕ

-- any desk: a state of its own, what it answers to a call, and the state after it
pub record AnyDesk : Type 1 where
  pub State : Type 0
  pub start : Issuer → State
  pub answer : State → DeskCall → DeskAnswer
  pub after : State → DeskCall → State

-- the state after a run of calls, the latest first, and the answer to the next call
abbrev pub reached : (d : AnyDesk) → Issuer → List DeskCall → d.State
reached d k [] = d.start k
reached d k (c ∷ cs) = d.after (reached d k cs) c

abbrev pub answered : AnyDesk → Issuer → List DeskCall → DeskCall → DeskAnswer
answered d k cs c = d.answer (reached d k cs) c

-- ours: what every function of the crate desk is proved to answer, from 64 empty places on
abbrev pub empty_desk : Issuer → Desk
empty_desk k = record { ac = k.ac; smi = k.smi; smc = k.smc; packed = k.packed; places = replicate 64 empty }

abbrev pub our_answer : Desk → DeskCall → DeskAnswer
our_answer d (Add pan q) = record { number = number_told (adds d pan q); bytes = [] }
our_answer d (Forget pan q) = record { number = number_told (forgets d pan q); bytes = [] }
our_answer d (Check pan q m arqc csu) = let r = checks d pan q m arqc csu in record { number = number_told r; bytes = (after_check r d).arpc }
our_answer d (Wrap pan q i g pin b place) = record { number = (wraps d pan q i g pin b place).code; bytes = (wraps d pan q i g pin b place).buffer }

abbrev pub our_next : Desk → DeskCall → Desk
our_next d (Add pan q) = desk_after (adds d pan q) d
our_next d (Forget pan q) = desk_after (forgets d pan q) d
our_next d (Check pan q m arqc csu) = (after_check (checks d pan q m arqc csu) d).desk
our_next d (Wrap pan q i g pin b place) = d

abbrev pub our_desk : AnyDesk
our_desk = record { State = Desk; start = empty_desk; answer = our_answer; after = our_next }
