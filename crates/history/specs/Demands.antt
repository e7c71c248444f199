-- The three demands, of any box. Each reads what the box answers and shows; what it must be is read off the ledger. Assumes nothing.
use Rattle.std.specs.Prelude.{ℕ, ◌≡◌, ◌↔◌, List}
use Rattle.card.specs.Calls.{Call, Script, Answer, only, gives, due}
use Rattle.history.specs.Run.{Loading, personalised_with, AnyBox, run, answer_of}
use Rattle.history.specs.Demand2.{Accepts}
use Rattle.history.specs.Ledger.{after_calls}
use Rattle.history.specs.Demand3.{Fresh, StrikeLaw}

-- the state that a box reaches from a freshly personalised record by some calls, and its answer to the next
abbrev pub reached : (b : AnyBox) → Loading → List Call → b.State
reached b l cs = run b (b.start l) cs

abbrev pub answer : AnyBox → Loading → List Call → Call → Answer
answer b l cs c = b.answer (reached b l cs) c

-- 1. "Each bad input gets the numbered refusal of paper 01." "A refusal returns its number only." That it "changes the record only where the papers say
-- so" is demand 3's the_record
pub record Demand1 (b : AnyBox) : Type 0 where
  pub personalisation : (l : Loading) → b.welcome l ≡ answer_of (personalised_with l)
  pub numbers : (l : Loading) (cs : List Call) (c : Call) → Fresh l → (answer b l cs c).number ≡ (due (after_calls l cs) c).number
  pub refusals : (l : Loading) (cs : List Call) (c : Call) → Fresh l → ((answer b l cs c).number ≡ 0 → ⊥) → answer b l cs c ≡ only (answer b l cs c).number

-- 2. "A message is accepted exactly when the record is sound and its phase, header, shape, instruction, counter, code and PIN format all pass."
-- "Keys, cryptograms, PIN blocks, counter blocks and script messages are those of R 1323565.1.008, 009 and 010 as 01 reads them.": in what is
-- accepted, and in what an accepted call gives
pub record Demand2 (b : AnyBox) : Type 0 where
  pub accepted : (l : Loading) (cs : List Call) (h m : List ℕ) → Fresh l → ((answer b l cs (Script h m)).number ≡ 0) ↔ Accepts (after_calls l cs) h m
  pub given : (l : Loading) (cs : List Call) (c : Call) → Fresh l → (answer b l cs c).number ≡ 0 → answer b l cs c ≡ gives (after_calls l cs) c

-- 3. "From any freshly personalised record make any run of the other card calls." The record is the one that the ledger says, and a withdrawal
-- forgets what is struck out
pub record Demand3 (b : AnyBox) : Type 0 where
  pub the_record : (l : Loading) (cs : List Call) → Fresh l → b.shown (reached b l cs) ≡ after_calls l cs
  pub struck_out : StrikeLaw b

pub record Demands (b : AnyBox) : Type 0 where
  pub first : Demand1 b
  pub second : Demand2 b
  pub third : Demand3 b

-- Two boxes that nobody can tell apart: the same answer to every call after every run from every fresh record, and the same record shown
pub record Same (b c : AnyBox) : Type 0 where
  pub welcomes : (l : Loading) → b.welcome l ≡ c.welcome l
  pub answers : (l : Loading) (cs : List Call) (x : Call) → Fresh l → answer b l cs x ≡ answer c l cs x
  pub records : (l : Loading) (cs : List Call) → Fresh l → b.shown (reached b l cs) ≡ c.shown (reached c l cs)

-- The demands leave no choice
abbrev pub NoOther : Type 1
NoOther = (b c : AnyBox) → Demands b → Demands c → Same b c
