use Rattle.std.proofs.Common.{◌≡◌, ◌+◌, ◌≤◌, length}
use lib.Seq.{paste}
use Rattle.rounds.specs.Lent.{vector_at}
use Rattle.rounds.proofs.vector.Given as goal

abbrev pub invariant-loop-i : goal.invariant-loop-i
invariant-loop-i l = (l.p + 8 ≤ length l.b) × (l.r ≡ paste l.initial.r 0 (vector_at l.b l.p) l.i)
