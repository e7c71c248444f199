-- What was read of script templates, given as bytes. Assumes nothing.
use Prim.Native.Nat.{ℕ}
use mathlib.Core.Path.{◌≡◌, sym, ap, subst, ◌∙◌}
use mathlib.Core.List.{List}
use lib.ListN.{length}
use Rattle.std.specs.Prelude.{Result, Ok, Some}
use Rattle.answers.specs.declared.Refusal.{Refusal}
use Rattle.octets.specs.Numbers.{be_octets}
use Rattle.templates.specs.declared.Fault.{Fault}
use Rattle.templates.specs.declared.Read.{Read}
use Rattle.templates.specs.Lent.{laid_objects}
use Rattle.exports.specs.Lent.{Given, unless, GivenObjects, fault_place, GivenFault}

-- a and r are what was read, by the definition and by the code; b the bytes that are given
module _ (a r : Read) (b lent : List ℕ) (q : ℕ) (after : List ℕ) (e : r ≡ a) where
  pub give_objects : b ≡ laid_objects r.objects → length b ≡ 320 → Given (length b) (unless r.fault b) lent q after → GivenObjects a lent q after
  give_objects f n g =
      subst (λ (x : Read). GivenObjects x lent q after) e
      (subst (λ (x : List ℕ). Given 320 (unless r.fault x) lent q after) f (subst (λ (k : ℕ). Given k (unless r.fault b) lent q after) n g))

  pub give_fault : (t : Fault) → r.fault ≡ Some t → b ≡ be_octets 4 t.at → length b ≡ 4 → Given (length b) (Ok b) lent q after → GivenFault a lent q after
  give_fault t w f n g =
      let p : Ok b ≡ fault_place r.fault = ap Ok f ∙ sym (ap fault_place w) in
      subst (λ (x : Read). GivenFault x lent q after) e
      (subst (λ (x : Result (List ℕ) Refusal). Given 4 x lent q after) p (subst (λ (k : ℕ). Given k (Ok b) lent q after) n g))
