-- The answers of a trace are those of the card to its calls, from one accepted 00 to the next. Assumes nothing.
use Rattle.std.specs.Prelude.{ℕ, ◌≡◌, Bool, true, false, not, ◌&&◌, ◌↔◌}
use mathlib.Core.List.{List, [], ◌∷◌, ◌++◌, map, flat_map}
use Rattle.card.specs.Calls.{Call, due}
use Rattle.card.specs.Personalise.{blank}
use Rattle.lines.specs.declared.Held.{Held}
use Rattle.lines.specs.Lines.{readable}
use Rattle.lines.specs.Answers.{holding, nothing, LineAnswer, numbered}
use Rattle.frames.specs.Frames.{answer_to}
use Rattle.trace.specs.Traced.{traced}
use Rattle.history.specs.Run.{Loading, AnyBox, run, did, history, ours}
use Rattle.history.specs.Ledger.{after_calls}
use Rattle.history.specs.Demand3.{Fresh}
use Rattle.history.specs.Demands.{reached, Demands}
use Rattle.dispatch.specs.Dispatch.{Frame, unreadable, misfit, personalise, call, surplus, frame_in}
use Rattle.dispatch.specs.Behind.{HeldBy, with_record, AnswerBy, accepts, octets_in, answered, after_frames, answers_to, traced_by}

-- what our trace holds and answers, as our box behind the frames; and what it holds after some lines
abbrev pub of_held : Held → HeldBy ours
of_held h = record { exists = h.exists; state = h.card }

abbrev pub as_answer : AnswerBy ours → LineAnswer
as_answer a = record { after = record { exists = a.after.exists; card = a.after.state }; octets = a.octets }

unfoldable pub after_lines : Held → List (List ℕ) → Held
after_lines h [] = h
after_lines h (l ∷ ls) = after_lines (answer_to h l).after ls

-- the calls among some frames, and of a list with an answer for each frame those to the calls
abbrev pub call_in : Frame → List Call
call_in unreadable = []
call_in misfit = []
call_in (personalise x) = []
call_in (call c) = c ∷ []
call_in (surplus c s) = []

abbrev pub calls_in : List Frame → List Call
calls_in fs = flat_map call_in fs

unfoldable pub of_calls : List Frame → List (List ℕ) → List (List ℕ)
of_calls [] t = []
of_calls (f ∷ fs) [] = []
of_calls (f ∷ fs) (a ∷ t) = map (λ c. a) (call_in f) ++ of_calls fs t

-- whether no frame among some begins a new history: none is an accepted 00
abbrev pub begins : AnyBox → Frame → Bool
begins b unreadable = false
begins b misfit = false
begins b (personalise x) = accepts b x
begins b (call c) = false
begins b (surplus c s) = false

unfoldable pub none_begins : AnyBox → List Frame → Bool
none_begins b [] = true
none_begins b (f ∷ fs) = not (begins b f) && none_begins b fs

-- such frames from a state with a record: the state after them is the one after their calls, and the calls are answered as in the history
pub record Piece (b : AnyBox) (s : b.State) (fs : List Frame) : Type 0 where
  pub the_state : after_frames b (with_record b s) fs ≡ with_record b (run b s (calls_in fs))
  pub the_answers : of_calls fs (answers_to b (with_record b s) fs) ≡ map octets_in (history b s (calls_in fs))

pub record FromFrameToCall : Type 1 where
  -- our trace is our box behind the frames: every line, whatever is held, and so a whole trace
  pub of_line : (h : Held) (l : List ℕ) → answer_to h l ≡ as_answer (answered ours (of_held h) (frame_in l))
  pub of_trace : (text : List ℕ) → traced text ≡ traced_by ours blank text
  -- 01's row 13, "Given exactly when": "trace line unreadable"
  pub of_unreadable : (h : Held) (l : List ℕ) → ((answer_to h l).octets ≡ 13 ∷ []) ↔ (readable l ≡ false)
  -- up to the first accepted 00 there is no record, and a call is 6; an accepted 00 gives a fresh record, whatever was held
  pub of_none : (ls : List (List ℕ)) → none_begins ours (map frame_in ls) ≡ true → after_lines nothing ls ≡ nothing
  pub of_early : (l : List ℕ) (c : Call) → frame_in l ≡ call c → answer_to nothing l ≡ numbered nothing 6
  pub of_start : (h : Held) (l : List ℕ) (x : Loading) → frame_in l ≡ personalise x → Fresh x → answer_to h l ≡ numbered (holding (ours.start x)) 0
  -- from there to the next, of any box: a run of its calls
  pub of_piece : (b : AnyBox) (s : b.State) (fs : List Frame) → none_begins b fs ≡ true → Piece b s fs
  pub of_history : (b : AnyBox) (h : HeldBy b) (x : Loading) (fs : List Frame) → accepts b x ≡ true → none_begins b fs ≡ true
      → after_frames b h (personalise x ∷ fs) ≡ with_record b (reached b x (calls_in fs))

-- What the demands say of runs they say of our trace: whatever was held, after an accepted 00 and lines without another the record is the one that
-- the ledger says, and a call is answered what is due of it
pub record Demanded (h : Held) (l : List ℕ) (x : Loading) (ls : List (List ℕ)) : Type 0 where
  pub the_record : after_lines h (l ∷ ls) ≡ holding (after_calls x (calls_in (map frame_in ls)))
  pub the_answer : (m : List ℕ) (c : Call) → frame_in m ≡ call c
      → (answer_to (after_lines h (l ∷ ls)) m).octets ≡ octets_in (did c (due (after_calls x (calls_in (map frame_in ls))) c))

abbrev pub DemandedOfTraces : Type 0
DemandedOfTraces =
    (h : Held) (l : List ℕ) (x : Loading) (ls : List (List ℕ)) → frame_in l ≡ personalise x → Fresh x → none_begins ours (map frame_in ls) ≡ true
    → Demanded h l x ls

-- And they leave the box behind the frames no choice: a box that meets them, put behind the frames in whatever state it comes, answers every trace as ours does
abbrev pub NoOtherTrace : Type 1
NoOtherTrace = (b : AnyBox) → Demands b → (s : b.State) (text : List ℕ) → traced_by b s text ≡ traced text
