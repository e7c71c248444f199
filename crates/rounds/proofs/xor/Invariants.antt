use Rattle.std.proofs.Common.{◌≡◌, ◌≤◌}
use lib.Seq.{paste}
use Rattle.lps.specs.Vectors.{X}
use Rattle.rounds.proofs.xor.Given as goal

abbrev pub invariant-loop-i : goal.invariant-loop-i
invariant-loop-i l = (l.i ≤ 8) × (l.r ≡ paste l.initial.r 0 (X l.a l.b) l.i)
