-- From one accepted personalisation to the next, of any box. Assumes nothing.
use Prim.Native.Nat.{ℕ}
use mathlib.Core.Path.{◌≡◌, refl, ap, ◌∙◌}
use mathlib.Core.Bool.{Bool, true, false, not, and-eq-true_iff, false≢true}
use mathlib.Core.List.{List, [], ◌∷◌, flat_map}
use Rattle.history.specs.Run.{Loading, AnyBox, did}
use Rattle.history.specs.Demands.{reached}
use Rattle.dispatch.specs.Dispatch.{Frame, unreadable, misfit, personalise, call, surplus}
use Rattle.dispatch.specs.Behind.{HeldBy, no_record, with_record, AnswerBy, number_by, accepts, octets_in, answered, after_frames, answers_to}
use Rattle.dispatch.specs.Statement.{calls_in, of_calls, begins, none_begins, Piece}

pub accepted_so : (b : AnyBox) (h : HeldBy b) (x : Loading) → accepts b x ≡ true → answered b h (personalise x) ≡ number_by b (with_record b (b.start x)) 0
unfolding answered
accepted_so b h x e = rw e

refused_so : (b : AnyBox) (h : HeldBy b) (x : Loading) → accepts b x ≡ false → answered b h (personalise x) ≡ number_by b h (b.welcome x).number
unfolding answered
refused_so b h x e = rw e

not_so : (e : Bool) → not e ≡ true → e ≡ false
not_so true p = absurd (false≢true p)
not_so false p = refl

-- a frame that begins nothing
none_step : (b : AnyBox) (s : b.State) (f : Frame) → begins b f ≡ false → (answered b (no_record b s) f).after ≡ no_record b s
unfolding answered
none_step b s unreadable e = refl
none_step b s misfit e = refl
none_step b s (personalise x) e = ap (λ (a : AnswerBy b). a.after) (refused_so b (no_record b s) x e)
none_step b s (call c) e = refl
none_step b s (surplus c t) e = refl

pub none_held : (b : AnyBox) (s : b.State) (fs : List Frame) → none_begins b fs ≡ true → after_frames b (no_record b s) fs ≡ no_record b s
unfolding after_frames none_begins
none_held b s [] e = refl
none_held b s (f ∷ fs) e =
    let a = (and-eq-true_iff (not (begins b f)) _).0 e in
    ap (λ (h : HeldBy b). after_frames b h fs) (none_step b s f (not_so _ a.0)) ∙ none_held b s fs a.1

piece_step : (b : AnyBox) (s : b.State) (f : Frame) (fs : List Frame) → begins b f ≡ false → ((t : b.State) → Piece b t fs) → Piece b s (f ∷ fs)
unfolding answered after_frames answers_to of_calls flat_map
piece_step b s unreadable fs e k = record { the_state = (k s).the_state; the_answers = (k s).the_answers }
piece_step b s misfit fs e k = record { the_state = (k s).the_state; the_answers = (k s).the_answers }
piece_step b s (personalise x) fs e k =
    let w = refused_so b (with_record b s) x e in
    record {
      the_state = ap (λ (a : AnswerBy b). after_frames b a.after fs) w ∙ (k s).the_state;
      the_answers = ap (λ (a : AnswerBy b). of_calls fs (answers_to b a.after fs)) w ∙ (k s).the_answers;
    }
piece_step b s (call c) fs e k =
    record {
      the_state = (k (b.after s c)).the_state;
      the_answers = ap (λ (t : List (List ℕ)). octets_in (did c (b.answer s c)) ∷ t) (k (b.after s c)).the_answers;
    }
piece_step b s (surplus c t) fs e k = record { the_state = (k s).the_state; the_answers = (k s).the_answers }

pub of_piece : (b : AnyBox) (s : b.State) (fs : List Frame) → none_begins b fs ≡ true → Piece b s fs
unfolding after_frames answers_to of_calls none_begins flat_map
of_piece b s [] e = record { the_state = refl; the_answers = refl }
of_piece b s (f ∷ fs) e =
    let a = (and-eq-true_iff (not (begins b f)) _).0 e in
    piece_step b s f fs (not_so _ a.0) (λ t. of_piece b t fs a.1)

pub of_history : (b : AnyBox) (h : HeldBy b) (x : Loading) (fs : List Frame) → accepts b x ≡ true → none_begins b fs ≡ true
    → after_frames b h (personalise x ∷ fs) ≡ with_record b (reached b x (calls_in fs))
unfolding after_frames
of_history b h x fs e n = ap (λ (a : AnswerBy b). after_frames b a.after fs) (accepted_so b h x e) ∙ (of_piece b (b.start x) fs n).the_state
