-- Demand 2: a script is accepted exactly when the eight checks pass, and refused with 8 exactly when those ahead of the code pass and the code does not.
-- Assumes nothing.
use Prim.Native.Nat.{ℕ}
use mathlib.Core.Path.{◌≡◌, refl, sym, ap, ◌∙◌}
use mathlib.Core.Bool.{Bool, true, false, false≢true}
use mathlib.Core.List.{List}
use mathlib.Core.Logic.{◌↔◌}
use borrow.Author.Tests.{eqb-false, eq-eqb, ne_eqb}
use Rattle.answers.proofs.Laws.{not_zero}
use Rattle.card.specs.declared.Card.{Card}
use Rattle.card.specs.declared.Reply.{Reply}
use Rattle.card.specs.Record.{sound}
use Rattle.card.specs.Calls.{Call, Script, accept, judged_script, judged, judged_under, due_under, after_under, plain, step}
use Rattle.history.specs.Demand2.{Accepts, Differs, DiffersExactly}
use Rattle.history.proofs.Change.{same_code, format_so, Change, change, step_by, early, spoiled, differed, took, quiet}

-- 01: "Any unsound record gets 1 ahead of all other checks and comes back unchanged, Script included."
pub unsound_law : (r : Card) (c : Call) → sound r ≡ false → step r c ≡ plain r 1
unfolding due_under after_under
unsound_law r c e = rw e

-- where the checks pass, the verdict is to accept
pub passed : (r : Card) (h m : List ℕ) → Accepts r h m → judged r (Script h m) ≡ accept
unfolding judged_under judged_script
passed r h m a = rw (a.phase, eq-eqb _ _ a.header, a.shape, a.instruction, ne_eqb _ _ a.counter, same_code r h m ∙ a.code, format_so a)

passes : {r : Card} {h m : List ℕ} {x : Reply} → Change r (Script h m) x → x.code ≡ 0 → Accepts r h m
passes (quiet q e) z = absurd (eqb-false _ _ (not_zero q) z)
passes (early e) z = absurd (eqb-false 6 0 refl z)
passes (spoiled q o e n) z = absurd (eqb-false _ _ (not_zero q) z)
passes (differed w n) z = absurd (eqb-false 8 0 refl z)
passes (took a) z = a

differs_so : {r : Card} {h m : List ℕ} {x : Reply} → Change r (Script h m) x → x.code ≡ 8 → Differs r h m
differs_so (quiet q e) z = absurd (false≢true e)
differs_so (early e) z = absurd (eqb-false 6 8 refl z)
differs_so (spoiled q o e n) z = absurd (eqb-false _ _ e z)
differs_so (differed w n) z = w
differs_so (took a) z = absurd (eqb-false 0 8 refl z)

-- on every record, sound or not, reached or not
pub accepted_exactly : (r : Card) (h m : List ℕ) → ((step r (Script h m)).code ≡ 0) ↔ Accepts r h m
accepted_exactly r h m = (there (sound r) refl, λ a. ap (λ (x : Reply). x.code) (step_by r a.sound (Script h m)) ∙ rw (passed r h m a))
  where
    there : (s : Bool) → sound r ≡ s → (step r (Script h m)).code ≡ 0 → Accepts r h m
    there true e z = passes (change r e (Script h m)) z
    there false e z = absurd (eqb-false 1 0 refl (sym (ap (λ (x : Reply). x.code) (unsound_law r (Script h m) e)) ∙ z))

pub differs_exactly : DiffersExactly
unfolding judged_under judged_script due_under
differs_exactly r h m = (
  there (sound r) refl,
  λ a. rw (a.sound, a.phase, eq-eqb _ _ a.header, a.shape, a.instruction, ne_eqb _ _ a.counter, same_code r h m ∙ a.code),
)
  where
    there : (s : Bool) → sound r ≡ s → (step r (Script h m)).code ≡ 8 → Differs r h m
    there true e z = differs_so (change r e (Script h m)) z
    there false e z = absurd (eqb-false 1 8 refl (sym (ap (λ (x : Reply). x.code) (unsound_law r (Script h m) e)) ∙ z))
