-- A checking with a wrong length is 1, whatever else. Assumes nothing.
use Prim.Native.Nat.{ℕ}
use mathlib.Core.Path.{◌≡◌, sym, ◌∙◌}
use mathlib.Core.Bool.{and-false}
use mathlib.Core.List.{List}
use borrow.Author.Tests.{eq-eqb, ne_eqb}
use lib.ListN.{length}
use Rattle.std.specs.Prelude.{Result, Err}
use Rattle.answers.specs.declared.Refusal.{Refusal}
use Rattle.answers.specs.declared.Refusal.TheVariants.{Input}
use Rattle.desk.specs.declared.Desk.{Desk}
use Rattle.desk.specs.declared.Checked.{Checked}
use Rattle.desk.specs.Check.{checks}

module _ (d : Desk) (pan : List ℕ) (q : ℕ) (m arqc csu : List ℕ) (r : Result Checked Refusal) where
  pub check_data : (length m ≡ 65 → ⊥) → r ≡ Err Input → r ≡ checks d pan q m arqc csu
  unfolding checks
  check_data h z = z ∙ sym (simp (ne_eqb (length m) 65 h))

  module _ (h1 : length m ≡ 65) where
    pub check_arqc : (length arqc ≡ 8 → ⊥) → r ≡ Err Input → r ≡ checks d pan q m arqc csu
    unfolding checks
    check_arqc h z = z ∙ sym (simp (eq-eqb (length m) 65 h1, ne_eqb (length arqc) 8 h))

    module _ (h2 : length arqc ≡ 8) where
      pub check_csu : (length csu ≡ 4 → ⊥) → r ≡ Err Input → r ≡ checks d pan q m arqc csu
      unfolding checks
      check_csu h z = z ∙ sym (simp (eq-eqb (length m) 65 h1, eq-eqb (length arqc) 8 h2, ne_eqb (length csu) 4 h))
