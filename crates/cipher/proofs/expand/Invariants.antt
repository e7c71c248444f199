use mathlib.Core.Path.{◌≡◌}
use lib.Seq.{paste}
use Rattle.octets.proofs.Parts.{zeros}
use Rattle.gost.specs.Gost.{subkeys}
use Rattle.cipher.proofs.expand.Given as goal

abbrev pub invariant-loop-i : goal.invariant-loop-i
invariant-loop-i l = l.k ≡ paste (zeros 8) 0 (subkeys 8 l.key) l.i
