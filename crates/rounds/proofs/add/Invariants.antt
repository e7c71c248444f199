use Rattle.std.proofs.Common.{◌≡◌, ◌≤◌}
use lib.Seq.{paste}
use Rattle.rounds.specs.Sums.{◌⊞◌}
use Rattle.rounds.proofs.SumLaws.{Rest}
use Rattle.rounds.proofs.add.Given as goal

abbrev pub invariant-loop-i : goal.invariant-loop-i
invariant-loop-i l = (l.i ≤ 8) × (l.carry ≤ 1) × (l.r ≡ paste l.initial.r 0 (l.a ⊞ l.b) l.i) × Rest l.a l.b (l.a ⊞ l.b) l.i l.carry
