-- A box, a run of calls, and its history (demand 3: "make any run of the other card calls"). Assumes nothing.
use Rattle.std.specs.Prelude.{ℕ, Bool, ◌&&◌, List, [], ◌∷◌, eqb}
use Rattle.answers.specs.declared.Refusal.TheVariants.{CodeDiffers, PinFormat, WrongPin}
use Rattle.answers.specs.Refusals.{number}
use Rattle.card.specs.declared.Card.{Card}
use Rattle.card.specs.declared.Reply.{Reply}
use Rattle.card.specs.Calls.{Call, Open, IssuerAnswer, Script, Close, Withdraw, Counters, CheckPin, Answer, step}
use Rattle.card.specs.Personalise.{personalised}

-- what a card is personalised with (01, frame 00): keys AC, SMI, SMC, counter, counter block, mark, clear PIN block, tries left; as lists and numbers of any size,
-- so that the demands speak of what a program can give and more
pub record Loading : Type 0 where
  pub ac : List ℕ
  pub smi : List ℕ
  pub smc : List ℕ
  pub atc : ℕ
  pub counters : List ℕ
  pub mark : ℕ
  pub block : List ℕ
  pub tries : ℕ

-- a box: a state of its own; what it answers to personalisation, and the state after it; what it answers to a call, and the state after it; and
-- the record that it shows
pub record AnyBox : Type 1 where
  pub State : Type 0
  pub welcome : Loading → Answer
  pub start : Loading → State
  pub answer : State → Call → Answer
  pub after : State → Call → State
  pub shown : State → Card

-- the state after some calls
abbrev pub run : (b : AnyBox) → b.State → List Call → b.State
run b s [] = s
run b s (c ∷ cs) = run b (b.after s c) cs

-- a call and its answer
pub data Entry : Type 0 where
  did : Call → Answer → Entry

abbrev pub History : Type 0
History = List Entry

abbrev pub history : (b : AnyBox) → b.State → List Call → History
history b s [] = []
history b s (c ∷ cs) = did c (b.answer s c) ∷ history b (b.after s c) cs

abbrev pub calls_of : History → List Call
calls_of [] = []
calls_of (did c a ∷ t) = c ∷ calls_of t

-- a call's frame in the clerk's trace, and a call of some frame that was answered with some number
abbrev pub frame : Call → ℕ
frame (Open d) = 1
frame (IssuerAnswer arpc csu) = 2
frame (Script h m) = 3
frame Close = 4
frame Withdraw = 5
frame Counters = 6
frame (CheckPin b) = 7

abbrev pub was : ℕ → ℕ → Entry → Bool
was f n (did c a) = eqb (frame c) f && eqb a.number n

-- an accepted opening, an accepted issuer answer, an accepted script, a script refused with 8
abbrev pub is_opening : Entry → Bool
is_opening e = was 1 0 e

abbrev pub is_answer : Entry → Bool
is_answer e = was 2 0 e

abbrev pub is_command : Entry → Bool
is_command e = was 3 0 e

abbrev pub is_failure : Entry → Bool
is_failure e = was 3 (number CodeDiffers) e

-- a PIN check of a badly formed block, of a wrong PIN, and of the right one
abbrev pub is_misread : Entry → Bool
is_misread e = was 7 (number PinFormat) e

abbrev pub is_mistaken : Entry → Bool
is_mistaken e = was 7 (number WrongPin) e

abbrev pub is_recognised : Entry → Bool
is_recognised e = was 7 0 e

-- a box whose state is the record, which each call hands back: ours is the one of step, which every method of the card is proved to be
abbrev pub Box : Type 0
Box = Card → Call → Reply

abbrev pub answer_of : Reply → Answer
answer_of a = record { number = a.code; kind = a.kind; bytes = a.bytes }

abbrev pub personalised_with : Loading → Reply
personalised_with l = personalised l.ac l.smi l.smc l.atc l.counters l.mark l.block l.tries

abbrev pub boxed : Box → AnyBox
boxed b =
    record {
      State = Card;
      welcome = λ l. answer_of (personalised_with l);
      start = λ l. (personalised_with l).card;
      answer = λ r c. answer_of (b r c);
      after = λ r c. (b r c).card;
      shown = λ r. r;
    }

abbrev pub ours : AnyBox
ours = boxed (λ r c. step r c)
