-- No other box answers a trace otherwise. Assumes nothing.
use Prim.Native.Nat.{ℕ}
use mathlib.Core.Path.{◌≡◌, refl, sym, ap, ap₂, ◌∙◌}
use mathlib.Core.Bool.{Bool, true, false, cond}
use mathlib.Core.List.{List, [], ◌∷◌, map, flat_map}
use lib.Dec.{eqb}
use borrow.Author.Tests.{eqb-true}
use Rattle.card.specs.declared.Card.{Card}
use Rattle.card.specs.Calls.{Call, Answer as CallAnswer}
use Rattle.card.specs.Personalise.{blank}
use Rattle.lines.specs.Lines.{lines, line_for}
use Rattle.history.specs.Run.{Loading, personalised_with, AnyBox, run, did, ours}
use Rattle.history.specs.Demand3.{Fresh}
use Rattle.history.specs.Demands.{Same}
use Rattle.history.proofs.Meets.{ours_meets_demands, no_other_box}
use Rattle.dispatch.specs.Dispatch.{Frame, unreadable, misfit, personalise, call, surplus, frame_in}
use Rattle.dispatch.specs.Behind.{HeldBy, no_record, with_record, AnswerBy, number_by, octets_in, surplus_number, answered, answers_to, traced_by}
use Rattle.dispatch.specs.Statement.{NoOtherTrace}
use Rattle.dispatch.proofs.Ours.{of_trace}

-- from here on nobody can tell a state of a box from a record of ours
record Alike (b : AnyBox) (s : b.State) (r : Card) : Type 0 where
  answers : (cs : List Call) (c : Call) → b.answer (run b s cs) c ≡ ours.answer (run ours r cs) c
  records : (cs : List Call) → b.shown (run b s cs) ≡ run ours r cs

data Beside (b : AnyBox) : HeldBy b → HeldBy ours → Type 0 where
  neither : {s : b.State} {r : Card} → Beside b (no_record b s) (no_record ours r)
  both : {s : b.State} {r : Card} → Alike b s r → Beside b (with_record b s) (with_record ours r)

-- a frame: the same answer, and beside each other after it
record Goes (b : AnyBox) (a : AnswerBy b) (o : AnswerBy ours) : Type 0 where
  octets : a.octets ≡ o.octets
  after : Beside b a.after o.after

module _ (b : AnyBox) (same : Same b ours) where
  loads_goes : {h : HeldBy b} {g : HeldBy ours} (x : Loading) → Beside b h g → Goes b (answered b h (personalise x)) (answered ours g (personalise x))
  unfolding answered
  loads_goes {h} {g} x k = rw (same.welcomes x) (go (eqb (personalised_with x).code 0) refl)
    where
      n : ℕ
      n = (personalised_with x).code

      go : (e : Bool) → eqb n 0 ≡ e
          → Goes b (cond e (number_by b (with_record b (b.start x)) 0) (number_by b h n))
          (cond e (number_by ours (with_record ours (ours.start x)) 0) (number_by ours g n))
      go true e =
          let f : Fresh x = eqb-true _ _ e in
          record { octets = refl; after = both (record { answers = λ cs c. same.answers x cs c f; records = λ cs. same.records x cs f }) }
      go false e = record { octets = refl; after = k }

  goes : {h : HeldBy b} {g : HeldBy ours} (f : Frame) → Beside b h g → Goes b (answered b h f) (answered ours g f)
  unfolding answered
  goes unreadable k = record { octets = refl; after = k }
  goes misfit k = record { octets = refl; after = k }
  goes (personalise x) k = loads_goes x k
  goes (call c) neither = record { octets = refl; after = neither }
  goes (call c) (both a) =
      record {
        octets = ap (λ (y : CallAnswer). octets_in (did c y)) (a.answers [] c);
        after = both (record { answers = λ cs. a.answers (c ∷ cs); records = λ cs. a.records (c ∷ cs) });
      }
  goes (surplus c s) neither = record { octets = refl; after = neither }
  goes (surplus c s) (both a) = record { octets = ap (λ (y : Card). surplus_number y c ∷ []) (a.records []); after = both a }

  all_go : {h : HeldBy b} {g : HeldBy ours} (fs : List Frame) → Beside b h g → answers_to b h fs ≡ answers_to ours g fs
  unfolding answers_to
  all_go [] k = refl
  all_go {h = h} {g = g} (f ∷ fs) k =
      let w = goes f k in
      ap₂ {C = List (List ℕ)} (λ a t. a ∷ t) w.octets (all_go {h = (answered b h f).after} {g = (answered ours g f).after} fs w.after)

pub no_other_trace : NoOtherTrace
unfolding traced_by
no_other_trace b d s text =
    ap (flat_map line_for) (all_go b (no_other_box b ours d ours_meets_demands) (map frame_in (lines text)) (neither {r = blank})) ∙ sym (of_trace text)
