use mathlib.Core.Path.{ap₂}
use Prim.Native.Nat.{ℕ}
use Rattle.gost.specs.Gost.{halves}
use Rattle.cipher.proofs.halves_of.Goals as goal

pub returns : goal.returns
unfolding halves
returns c = ap₂ (λ (a b : ℕ). record { n1 = a; n2 = b }) c.word_at.ensures c.word_at-2.ensures
