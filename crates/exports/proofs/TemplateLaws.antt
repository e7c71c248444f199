-- Script templates written, and the number of bytes given to a lent slice. Assumes nothing.
use mathlib.Core.Path.{◌≡◌, sym, ap, ap₂, ◌∙◌}
use mathlib.Core.Bool.{Bool, cond, ◌&&◌}
use mathlib.Core.List.{List}
use Prim.Native.Nat.{ℕ}
use borrow.Author.Tests.{eq-eqb, ne_eqb}
use lib.Dec.{eqb}
use lib.ListN.{length}
use Rattle.std.specs.Prelude.{Ok, Err}
use Rattle.answers.specs.declared.Refusal.{Refusal}
use Rattle.answers.specs.Refusals.{number}
use Rattle.answers.proofs.Laws.{not_zero}
use Rattle.octets.specs.Numbers.{be_octets}
use Rattle.scripts.specs.Writing.{write_size, Wrote}
use Rattle.exports.specs.Lent.{number_of, bytes_after, Given, GivenTemplates}

module _ (b s o : List ℕ) (place : ℕ) (size : List ℕ) where
  -- the slice for the size is not of 4 bytes: nothing is written
  pub write_length : (length size ≡ 4 → ⊥) → {r : ℕ} → r ≡ 1 → GivenTemplates b s o place size r o size
  write_length n e = record {
    number = e ∙ sym (simp (ne_eqb (length size) 4 n));
    buffer = sym (simp (ne_eqb (length size) 4 n));
    slice = sym (simp (ne_eqb (length size) 4 n));
  }

  -- n bytes were written, and x are the octets of their number
  pub write_given : (n : ℕ) (after : List ℕ) → length size ≡ 4 → Wrote b s o place (Ok n) after
      → (x : List ℕ) → x ≡ be_octets 4 n → {r : ℕ} {z : List ℕ} → Given 4 (Ok x) size r z → GivenTemplates b s o place size r after z
  unfolding number_of bytes_after
  write_given n after l w x e g = record {
    number = g.number ∙ simp (eq-eqb (length size) 4 l) w.code_is;
    buffer = w.buffer_is ∙ sym (simp (eq-eqb (length size) 4 l));
    slice =
        g.slice
        ∙ simp (eq-eqb (length size) 4 l)
        (e ∙ ap (be_octets 4) w.size_is ∙ sym (ap (λ (t : Bool). cond t (be_octets 4 (write_size b s o place)) size) (eq-eqb _ 0 (sym w.code_is))));
  }

  -- refused: the slice stays
  pub write_refused : (q : Refusal) (after : List ℕ) → length size ≡ 4 → Wrote b s o place (Err q) after
      → {r : ℕ} → r ≡ number q → GivenTemplates b s o place size r after size
  write_refused q after l w e = record {
    number = e ∙ w.code_is ∙ sym (simp (eq-eqb (length size) 4 l));
    buffer = w.buffer_is ∙ sym (simp (eq-eqb (length size) 4 l));
    slice =
        sym (ap₂ (λ (t u : Bool). cond (t && u) (be_octets 4 (write_size b s o place)) size) (eq-eqb (length size) 4 l) (ap (λ (k : ℕ). eqb k 0) (sym w.code_is) ∙ not_zero q));
  }
