-- Our box meets the demands, and no other does. Assumes nothing.
use mathlib.Core.Path.{◌≡◌, refl, sym, ap, subst, ◌∙◌}
use mathlib.Core.List.{List}
use mathlib.Core.Bool.{Bool, true, false, cond}
use mathlib.Core.Logic.{◌↔◌}
use lib.Dec.{eqb}
use borrow.Author.Tests.{eqb-true, eqb-false}
use Rattle.card.specs.declared.Card.{Card}
use Rattle.card.specs.Record.{sound}
use Rattle.card.specs.Calls.{Call, Open, IssuerAnswer, Script, Close, Withdraw, Counters, Verdict, refuse, accept, judged, Answer, only, gives, due_by, due, due_under, CheckPin}
use Rattle.history.specs.Run.{Loading, AnyBox, ours}
use Rattle.history.specs.Demand2.{Accepts}
use Rattle.history.specs.Ledger.{after_calls}
use Rattle.history.specs.Demand3.{Fresh}
use Rattle.history.specs.Demands.{answer, Demands, NoOther}
use Rattle.history.proofs.Own.{any, box, run}
use Rattle.answers.proofs.Laws.{not_zero}
use Rattle.history.proofs.Accepted.{accepted_exactly}
use Rattle.history.proofs.Shadow.{our_record}
use Rattle.history.proofs.Strike.{strike_law}

-- what is due: an accepted call gives what it gives, and a refused one its number only
pub due_given : (s : Card) (c : Call) → (due s c).number ≡ 0 → due s c ≡ gives s c
unfolding due_under
due_given s c e = go (sound s) (judged s c) e
  where
    go : (b : Bool) (v : Verdict) → (cond b (due_by s c v) (only 1)).number ≡ 0 → cond b (due_by s c v) (only 1) ≡ gives s c
    go true (refuse q) z = absurd (eqb-false _ _ (not_zero q) z)
    go true accept z = refl
    go false v z = absurd (eqb-false 1 0 refl z)

gives_zero : (s : Card) (c : Call) → (gives s c).number ≡ 0
gives_zero s (Open d) = refl
gives_zero s (IssuerAnswer x u) = refl
gives_zero s (Script h m) = refl
gives_zero s Close = refl
gives_zero s Withdraw = refl
gives_zero s Counters = refl
gives_zero s (CheckPin b) = refl

pub due_refused : (s : Card) (c : Call) → ((due s c).number ≡ 0 → ⊥) → due s c ≡ only (due s c).number
unfolding due_under
due_refused s c e = go (sound s) (judged s c) e
  where
    go : (b : Bool) (v : Verdict) → ((cond b (due_by s c v) (only 1)).number ≡ 0 → ⊥) → cond b (due_by s c v) (only 1) ≡ only (cond b (due_by s c v) (only 1)).number
    go true (refuse q) z = refl
    go true accept z = absurd (z (gives_zero s c))
    go false v z = refl

our_answer : (l : Loading) (cs : List Call) (c : Call) → Fresh l → answer any l cs c ≡ due (after_calls l cs) c
our_answer l cs c f = ap (λ (x : Card). due x c) (our_record l f cs)

pub ours_meets_demands : Demands ours
ours_meets_demands =
    record {
      first =
          record {
            personalisation = λ l. refl;
            numbers = λ l cs c f. ap (λ (a : Answer). a.number) (our_answer l cs c f);
            refusals = λ l cs c f n. due_refused (run (any.start l) cs) c n;
          };
      second =
          record {
            accepted = λ l cs h m f. subst (λ (x : Card). ((box (run (any.start l) cs) (Script h m)).code ≡ 0) ↔ Accepts x h m) (our_record l f cs) (accepted_exactly (run (any.start l) cs) h m);
            given = λ l cs c f z. our_answer l cs c f ∙ due_given (after_calls l cs) c (sym (ap (λ (a : Answer). a.number) (our_answer l cs c f)) ∙ z);
          };
      third = record { the_record = λ l cs f. our_record l f cs; struck_out = strike_law };
    }

-- a box that meets the demands answers what is due
pub answers_due : (b : AnyBox) → Demands b → (l : Loading) (cs : List Call) (c : Call) → Fresh l → answer b l cs c ≡ due (after_calls l cs) c
answers_due b d l cs c f = go (eqb (due (after_calls l cs) c).number 0) refl
  where
    e : (answer b l cs c).number ≡ (due (after_calls l cs) c).number
    e = d.first.numbers l cs c f

    go : (t : Bool) → eqb (due (after_calls l cs) c).number 0 ≡ t → answer b l cs c ≡ due (after_calls l cs) c
    go true w = let z = eqb-true _ _ w in d.second.given l cs c f (e ∙ z) ∙ sym (due_given (after_calls l cs) c z)
    go false w =
        let z = eqb-false _ _ w in
        d.first.refusals l cs c f (λ y. z (sym e ∙ y)) ∙ ap only e ∙ sym (due_refused (after_calls l cs) c z)

pub no_other_box : NoOther
no_other_box b c db dc =
    record {
      welcomes = λ l. db.first.personalisation l ∙ sym (dc.first.personalisation l);
      answers = λ l cs x f. answers_due b db l cs x f ∙ sym (answers_due c dc l cs x f);
      records = λ l cs f. db.third.the_record l cs f ∙ sym (dc.third.the_record l cs f);
    }
