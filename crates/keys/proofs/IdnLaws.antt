-- An IDN under a key of another length. Assumes nothing.
use Prim.Native.Nat.{ℕ}
use mathlib.Core.Path.{◌≡◌}
use mathlib.Core.List.{List}
use borrow.Author.Tests.{ne_eqb}
use lib.ListN.{length}
use Rattle.std.specs.Prelude.{Err}
use Rattle.answers.specs.declared.Refusal.TheVariants.{Input}
use Rattle.octets.specs.Lengths.{key_fits}
use Rattle.keys.specs.Answers.{idn_answer}

module _ (key : List ℕ) (atc n : ℕ) where
  pub idn_no_key : (length key ≡ 32 → ⊥) → Err Input ≡ idn_answer key atc n
  unfolding idn_answer key_fits
  idn_no_key h = simp (ne_eqb _ _ h)
