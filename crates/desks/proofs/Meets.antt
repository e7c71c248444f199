-- Our desk is as demanded, and no other is. Assumes nothing.
use Prim.Native.Nat.{ℕ}
use mathlib.Core.Path.{◌≡◌, refl, sym, ap, ap₂, subst⁻¹, ◌∙◌}
use mathlib.Core.Logic.{◌↔◌}
use mathlib.Core.Bool.{Bool, true, false, cond}
use mathlib.Core.List.{List, [], ◌∷◌}
use lib.Dec.{eqb}
use borrow.Author.Tests.{ne_eqb, eqb-true, eqb-false}
use Rattle.desk.specs.declared.Desk.{Desk}
use Rattle.desks.specs.Run.{Issuer, DeskCall, DeskAnswer, AnyDesk, reached, answered, our_answer, our_next, our_desk}
use Rattle.desks.specs.Book.{gives, leaves, book, due_after}
use Rattle.desks.specs.Demanded.{Demanded, SameDesk, NoOtherDesk}
use Rattle.desks.specs.Sentences.{TableIsBook}
use Rattle.desks.proofs.Laws.{each_once}
use Rattle.desks.proofs.Kept.{at_first}
use Rattle.desks.proofs.Steps.{Keeps, Step, step_of}

-- after every run
step : (k : Issuer) (cs : List DeskCall) → Keeps k (reached our_desk k cs) (book k cs) → (c : DeskCall) → Step k (book k cs) c (answered our_desk k cs c) (reached our_desk k (c ∷ cs)) (due_after k cs c)
step k cs h c =
    subst⁻¹ (λ (d : Desk). Step k (book k cs) c (our_answer d c) (our_next d c) (due_after k cs c)) h.own
    (step_of k (reached our_desk k cs).places (book k cs) (each_once k cs) h.table c)

run : (k : Issuer) (cs : List DeskCall) → Keeps k (reached our_desk k cs) (book k cs)
unfolding book
run k [] = record { own = refl; table = at_first }
run k (c ∷ cs) = (step k cs (run k cs) c).after

pub table_is_book : TableIsBook
table_is_book = record { cards = λ k cs pan q. (run k cs).table.reads pan q; as_many = λ k cs. (run k cs).table.count }

pub ours_as_demanded : Demanded our_desk
ours_as_demanded =
    record {
      numbers = λ k cs c. (step k cs (run k cs) c).number;
      given = λ k cs c z. let s = step k cs (run k cs) c in s.bytes ∙ ap (λ (n : ℕ). cond (eqb n 0) (gives k c) (leaves c)) (sym s.number ∙ z);
      refused = λ k cs c z. let s = step k cs (run k cs) c in s.bytes ∙ ap (λ (x : Bool). cond x (gives k c) (leaves c)) (ne_eqb _ _ (λ w. z (s.number ∙ w)));
    }

-- a desk as demanded answers what the book says
by_book : (d : AnyDesk) → Demanded d → (k : Issuer) (cs : List DeskCall) (c : DeskCall)
    → answered d k cs c ≡ record { number = due_after k cs c; bytes = cond (eqb (due_after k cs c) 0) (gives k c) (leaves c) }
by_book d h k cs c = ap₂ (λ (n : ℕ) (s : List ℕ). record { number = n; bytes = s }) e (go (eqb (due_after k cs c) 0) refl)
  where
    e : (answered d k cs c).number ≡ due_after k cs c
    e = h.numbers k cs c

    go : (x : Bool) → eqb (due_after k cs c) 0 ≡ x → (answered d k cs c).bytes ≡ cond x (gives k c) (leaves c)
    go true w = h.given k cs c (e ∙ eqb-true _ _ w)
    go false w = h.refused k cs c (λ z. eqb-false _ _ w (sym e ∙ z))

pub no_other_desk : NoOtherDesk
no_other_desk d e hd he k cs c = by_book d hd k cs c ∙ sym (by_book e he k cs c)

-- so the demand says exactly this of a desk: nobody can tell it from ours
pub exactly_ours : (d : AnyDesk) → Demanded d ↔ SameDesk d our_desk
exactly_ours d = (λ h. no_other_desk d our_desk h ours_as_demanded, back)
  where
    back : SameDesk d our_desk → Demanded d
    back s =
        let o = ours_as_demanded in
        record {
          numbers = λ k cs c. ap (λ (a : DeskAnswer). a.number) (s k cs c) ∙ o.numbers k cs c;
          given = λ k cs c. subst⁻¹ (λ (a : DeskAnswer). a.number ≡ 0 → a.bytes ≡ gives k c) (s k cs c) (o.given k cs c);
          refused = λ k cs c. subst⁻¹ (λ (a : DeskAnswer). (a.number ≡ 0 → ⊥) → a.bytes ≡ leaves c) (s k cs c) (o.refused k cs c);
        }
