-- The demands say exactly this: nobody can tell the box from ours. Assumes nothing.
use Prim.Native.Nat.{ℕ}
use mathlib.Core.Path.{◌≡◌, refl, sym, ap, ap₂, subst, ◌∙◌}
use mathlib.Core.List.{List, [], ◌∷◌, ◌++◌, reverse, reverse-cons, append_assoc, append-nil}
use mathlib.Core.Bool.{Bool, false}
use mathlib.Core.Logic.{◌↔◌}
use Rattle.card.specs.declared.Card.{Card}
use Rattle.card.specs.Calls.{Call, Withdraw, Script, Answer, only, gives, due}
use Rattle.history.specs.Run.{Loading, AnyBox, run, did, History, history, calls_of, is_command}
use Rattle.history.specs.Demand2.{Accepts}
use Rattle.history.specs.Ledger.{must_be, ledger, loaded, after_calls}
use Rattle.history.specs.Demand3.{Fresh, struck, any_of, SameButStruck}
use Rattle.history.specs.Demands.{reached, answer, Demands, Same}
use Rattle.history.proofs.Own.{any}
use Rattle.history.proofs.Meets.{ours_meets_demands, answers_due, no_other_box}

run_one : (b : AnyBox) (s : b.State) (cs : List Call) (c : Call) → run b s (cs ++ (c ∷ [])) ≡ b.after (run b s cs) c
run_one b s [] c = refl
run_one b s (x ∷ cs) c = run_one b (b.after s x) cs c

module _ (b : AnyBox) (same : Same b any) (l : Loading) (f : Fresh l) where
  -- the histories are the same
  histories : (before cs : List Call) → history b (reached b l before) cs ≡ history any (reached any l before) cs
  histories before [] = refl
  histories before (c ∷ cs) =
      let e = run_one b (b.start l) before c in
      let g = run_one any (any.start l) before c in
      ap₂ {C = History} (λ x t. did c x ∷ t) (same.answers l before c f)
      (ap (λ (s : b.State). history b s cs) (sym e) ∙ histories (before ++ (c ∷ [])) cs ∙ ap (λ (s : Card). history any s cs) g)

  strikes_so : (before between after : List Call) (choice : ℕ → Bool) → any_of 4 between ≡ false → any_of 5 between ≡ false → SameButStruck b (b.start l) before between after is_command choice
  strikes_so before between after choice n4 n5 =
      let o = ours_meets_demands.third.struck_out l before between after choice f n4 n5 in
      let e = histories before between in
      let left : History → List Call = λ h. before ++ (calls_of (struck is_command choice h) ++ (Withdraw ∷ after)) in
      let right : List Call = before ++ (between ++ (Withdraw ∷ after)) in
      let rest = histories (before ++ between) (Withdraw ∷ after) in
      record {
        the_record = same.records l (left (history b (reached b l before) between)) f ∙ ap (λ (h : History). run any (any.start l) (left h)) e ∙ o.the_record ∙ sym (same.records l right f);
        the_answers =
            histories [] (left (history b (reached b l before) between))
            ∙ ap (λ (h : History). history any (any.start l) (left h)) e
            ∙ o.the_answers
            ∙ sym (ap₂ {C = History} (λ x y. x ++ y) (histories [] before) (ap₂ {C = History} (λ x y. x ++ y) (ap (struck is_command choice) e) rest));
      }

meets : (b : AnyBox) → Same b any → Demands b
meets b same =
    let o = ours_meets_demands in
    record {
      first =
          record {
            personalisation = λ l. same.welcomes l ∙ o.first.personalisation l;
            numbers = λ l cs c f. ap (λ (x : Answer). x.number) (same.answers l cs c f) ∙ o.first.numbers l cs c f;
            refusals = λ l cs c f. subst (λ (x : Answer). (x.number ≡ 0 → ⊥) → x ≡ only x.number) (sym (same.answers l cs c f)) (o.first.refusals l cs c f);
          };
      second =
          record {
            accepted = λ l cs h m f. subst (λ (x : Answer). (x.number ≡ 0) ↔ Accepts (after_calls l cs) h m) (sym (same.answers l cs (Script h m) f)) (o.second.accepted l cs h m f);
            given = λ l cs c f. subst (λ (x : Answer). x.number ≡ 0 → x ≡ gives (after_calls l cs) c) (sym (same.answers l cs c f)) (o.second.given l cs c f);
          };
      third =
          record {
            the_record = λ l cs f. same.records l cs f ∙ o.third.the_record l cs f;
            struck_out = λ l before between rest choice f n4 n5. strikes_so b same l f before between rest choice n4 n5;
          };
    }

-- so they say exactly this of a box: nobody can tell it from ours
pub exactly_ours : (b : AnyBox) → Demands b ↔ Same b any
exactly_ours b = (λ d. no_other_box b any d ours_meets_demands, meets b)

-- the ledger of some calls more
ledger_more : (r : Card) (t : History) (before cs : List Call) → ledger r t (before ++ cs) ≡ ledger r (ledger r t before) cs
unfolding ledger
ledger_more r t [] cs = refl
ledger_more r t (c ∷ before) cs = ledger_more r (did c (due (must_be r t) c) ∷ t) before cs

module _ (b : AnyBox) (d : Demands b) (l : Loading) (f : Fresh l) where
  written : (before cs : List Call) → ledger (loaded l) (ledger (loaded l) [] before) cs ≡ reverse (history b (reached b l before) cs) ++ ledger (loaded l) [] before
  unfolding ledger
  written before [] = refl
  written before (c ∷ cs) =
      let t = ledger (loaded l) [] before in
      let h = history b (b.after (reached b l before) c) cs in
      ap (λ (x : History). ledger (loaded l) x cs) (sym (ledger_more (loaded l) [] before (c ∷ [])))
      ∙ written (before ++ (c ∷ [])) cs
      ∙ ap₂ {C = History} (λ x y. reverse x ++ y) (ap (λ (s : b.State). history b s cs) (run_one b (b.start l) before c)) (ledger_more (loaded l) [] before (c ∷ []))
      ∙ ap (λ (a : Answer). reverse h ++ (did c a ∷ t)) (sym (answers_due b d l before c f))
      ∙ sym (append_assoc (reverse h) (did c (answer b l before c) ∷ []) t)
      ∙ ap (λ (x : History). x ++ t) (sym (reverse-cons (did c (answer b l before c)) h))

-- The ledger is the box's own history, the latest call first: what the demands count from the ledger is counted from the lines of the clerk's trace
pub ledger_is_history : (b : AnyBox) → Demands b → (l : Loading) (cs : List Call) → Fresh l → ledger (loaded l) [] cs ≡ reverse (history b (b.start l) cs)
unfolding ledger
ledger_is_history b d l cs f = written b d l f [] cs ∙ append-nil (reverse (history b (b.start l) cs))
