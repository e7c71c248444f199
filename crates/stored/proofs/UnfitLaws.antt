-- A checking for which what is lent does not fit is 1, and every lent byte stays. Assumes nothing.
use mathlib.Core.Path.{◌≡◌, refl, sym, ap, ◌∙◌, subst}
use mathlib.Core.Bool.{Bool, true, false, not}
use mathlib.Core.List.{List}
use Prim.Native.Nat.{ℕ}
use borrow.Author.Tests.{not-true}
use Rattle.std.specs.Prelude.{Result}
use Rattle.answers.specs.declared.Refusal.{Refusal}
use Rattle.desk.specs.declared.Checked.{Checked}
use Rattle.stored.specs.Lent.{if_fits, KeptChecked}

pub check_unfit : (f t : Bool) → t ≡ f → not t ≡ true → (r : Result Checked Refusal) (b o : List ℕ) → KeptChecked (if_fits f r) b o 1 b o
check_unfit f t e h r b o =
    subst (λ (y : Bool). KeptChecked (if_fits y r) b o 1 b o) (sym (not-true t h) ∙ e) (record { number = refl; table = refl; slice = refl })
