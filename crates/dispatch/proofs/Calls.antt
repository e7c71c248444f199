-- From frame to call, and what the demands say of our trace. Assumes nothing.
use Prim.Native.Nat.{ℕ}
use mathlib.Core.Path.{◌≡◌, ap, ◌∙◌}
use mathlib.Core.Bool.{true}
use mathlib.Core.List.{List, ◌∷◌, map}
use borrow.Author.Tests.{eq-eqb}
use Rattle.card.specs.declared.Card.{Card}
use Rattle.card.specs.Calls.{Call, due}
use Rattle.card.specs.Personalise.{blank}
use Rattle.lines.specs.declared.Held.{Held}
use Rattle.lines.specs.Answers.{holding, nothing, LineAnswer, numbered}
use Rattle.frames.specs.Frames.{answer_to}
use Rattle.history.specs.Run.{Loading, did, ours}
use Rattle.history.specs.Ledger.{after_calls}
use Rattle.history.specs.Demand3.{Fresh}
use Rattle.history.proofs.Meets.{ours_meets_demands}
use Rattle.dispatch.specs.Dispatch.{Frame, personalise, call, frame_in}
use Rattle.dispatch.specs.Behind.{HeldBy, with_record, octets_in, answered, after_frames}
use Rattle.dispatch.specs.Statement.{of_held, as_answer, after_lines, calls_in, none_begins, FromFrameToCall, DemandedOfTraces}
use Rattle.dispatch.proofs.Ours.{of_line, after_lines_lem, of_trace}
use Rattle.dispatch.proofs.Unreadable.{of_unreadable}
use Rattle.dispatch.proofs.Pieces.{accepted_so, none_held, of_piece, of_history}

as_held : HeldBy ours → Held
as_held h = record { exists = h.exists; card = h.state }

of_none : (ls : List (List ℕ)) → none_begins ours (map frame_in ls) ≡ true → after_lines nothing ls ≡ nothing
unfolding as_held
of_none ls e = ap as_held (after_lines_lem nothing ls ∙ none_held ours blank (map frame_in ls) e)

of_early : (l : List ℕ) (c : Call) → frame_in l ≡ call c → answer_to nothing l ≡ numbered nothing 6
unfolding answered
of_early l c e = of_line nothing l ∙ ap (λ (f : Frame). as_answer (answered ours (of_held nothing) f)) e

of_start : (h : Held) (l : List ℕ) (x : Loading) → frame_in l ≡ personalise x → Fresh x → answer_to h l ≡ numbered (holding (ours.start x)) 0
of_start h l x e f =
    of_line h l ∙ ap (λ (g : Frame). as_answer (answered ours (of_held h) g)) e ∙ ap as_answer (accepted_so ours (of_held h) x (eq-eqb _ _ f))

pub from_frame_to_call : FromFrameToCall
from_frame_to_call =
    record {
      of_line = of_line;
      of_trace = of_trace;
      of_unreadable = of_unreadable;
      of_none = of_none;
      of_early = of_early;
      of_start = of_start;
      of_piece = of_piece;
      of_history = of_history;
    }

-- our record, by the ledger
record_so : (h : Held) (l : List ℕ) (x : Loading) (ls : List (List ℕ)) → frame_in l ≡ personalise x → Fresh x → none_begins ours (map frame_in ls) ≡ true
    → of_held (after_lines h (l ∷ ls)) ≡ with_record ours (after_calls x (calls_in (map frame_in ls)))
record_so h l x ls e f n =
    after_lines_lem h (l ∷ ls)
    ∙ ap (λ (g : Frame). after_frames ours (of_held h) (g ∷ map frame_in ls)) e
    ∙ of_history ours (of_held h) x (map frame_in ls) (eq-eqb _ _ f) n
    ∙ ap (with_record ours) (ours_meets_demands.third.the_record x (calls_in (map frame_in ls)) f)

called_so : (r : Card) (m : List ℕ) (c : Call) → frame_in m ≡ call c → (answer_to (holding r) m).octets ≡ octets_in (did c (due r c))
unfolding answered
called_so r m c e = ap (λ (a : LineAnswer). a.octets) (of_line (holding r) m) ∙ ap (λ (g : Frame). (answered ours (with_record ours r) g).octets) e

pub demanded_of_traces : DemandedOfTraces
unfolding as_held
demanded_of_traces h l x ls e f n =
    let w : after_lines h (l ∷ ls) ≡ holding (after_calls x (calls_in (map frame_in ls))) = ap as_held (record_so h l x ls e f n) in
    record {
      the_record = w;
      the_answer = λ m c p. ap (λ (g : Held). (answer_to g m).octets) w ∙ called_so (after_calls x (calls_in (map frame_in ls))) m c p;
    }
