-- Any box behind the frames: what it answers to a trace (01, The clerk's trace). Assumes nothing.
use Rattle.std.specs.Prelude.{ℕ, Bool, true, false, cond, eqb}
use mathlib.Core.List.{List, [], ◌∷◌, map, flat_map}
use Rattle.answers.specs.declared.Refusal.TheVariants.{Input, PhaseWrong, Unreadable}
use Rattle.answers.specs.Refusals.{number}
use Rattle.card.specs.declared.Card.{Card}
use Rattle.card.specs.Calls.{Call, reply}
use Rattle.card.specs.Personalise.{blank}
use Rattle.lines.specs.Lines.{lines, line_for}
use Rattle.lines.specs.Answers.{octets_for}
use Rattle.frames.specs.Frames.{overlong}
use Rattle.history.specs.Run.{Loading, AnyBox, Entry, did, frame}
use Rattle.dispatch.specs.Dispatch.{Frame, unreadable, misfit, personalise, call, surplus, frame_in}

-- whether a record exists, and the state of the box; before a record exists it may be any
pub record HeldBy (b : AnyBox) : Type 0 where
  pub exists : Bool
  pub state : b.State

abbrev pub no_record : (b : AnyBox) → b.State → HeldBy b
no_record b s = record { exists = false; state = s }

abbrev pub with_record : (b : AnyBox) → b.State → HeldBy b
with_record b s = record { exists = true; state = s }

-- what a frame is answered: what is held after it, and the octets of the answer; and a number alone
pub record AnswerBy (b : AnyBox) : Type 0 where
  pub after : HeldBy b
  pub octets : List ℕ

abbrev pub number_by : (b : AnyBox) → HeldBy b → ℕ → AnswerBy b
number_by b h n = record { after = h; octets = n ∷ [] }

-- whether a box accepts a personalisation
abbrev pub accepts : AnyBox → Loading → Bool
accepts b x = eqb (b.welcome x).number 0

-- the octets of an answer to a call, in which no record stands
abbrev pub octets_in : Entry → List ℕ
octets_in (did c a) = octets_for (frame c) (reply blank a)

-- 04 and 06 with bytes after: "phase comes first", by the record that the box shows; 05 has no phase
abbrev pub surplus_number : Card → Call → ℕ
surplus_number r c = cond (eqb (frame c) 5) (number Input) (overlong r).code

-- "A second accepted 00 starts a new history"; refused, it leaves what is held. "Before a record exists, frames 01 to 06 answer 6.", and 07
unfoldable pub answered : (b : AnyBox) → HeldBy b → Frame → AnswerBy b
answered b h unreadable = number_by b h (number Unreadable)
answered b h misfit = number_by b h (number Input)
answered b h (personalise x) = cond (accepts b x) (number_by b (with_record b (b.start x)) 0) (number_by b h (b.welcome x).number)
answered b h (call c) =
    cond h.exists
    (record { after = with_record b (b.after h.state c); octets = octets_in (did c (b.answer h.state c)) })
    (number_by b h (number PhaseWrong))
answered b h (surplus c s) = number_by b h (cond h.exists (surplus_number (b.shown h.state) c) (number PhaseWrong))

-- frames, one after the other: what is held after them, and the answer to each
unfoldable pub after_frames : (b : AnyBox) → HeldBy b → List Frame → HeldBy b
after_frames b h [] = h
after_frames b h (f ∷ fs) = after_frames b (answered b h f).after fs

unfoldable pub answers_to : (b : AnyBox) → HeldBy b → List Frame → List (List ℕ)
answers_to b h [] = []
answers_to b h (f ∷ fs) = (answered b h f).octets ∷ answers_to b (answered b h f).after fs

-- a trace: "Each line is answered by one line"
unfoldable pub traced_by : (b : AnyBox) → b.State → List ℕ → List ℕ
traced_by b s text = flat_map line_for (answers_to b (no_record b s) (map frame_in (lines text)))
