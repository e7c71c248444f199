use mathlib.Core.Path.{◌≡◌}
use lib.ListN.{replicate}
use lib.Seq.{paste}
use Rattle.octets.specs.Digits.{pairs}
use Rattle.keys.proofs.pair_up.Given as goal

abbrev pub invariant-loop-i : goal.invariant-loop-i
invariant-loop-i l = l.out ≡ paste (replicate 8 0) 0 (pairs l.base l.s) l.i
