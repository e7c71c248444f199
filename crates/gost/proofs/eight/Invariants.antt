use Rattle.std.proofs.Common.{◌≡◌, drop}
use Rattle.gost.specs.Gost.{rounds}
use Rattle.gost.proofs.eight.Given as goal

abbrev pub invariant-loop-x : goal.invariant-loop-x
invariant-loop-x l = rounds (drop l.x-index l.fn.k) (record { n1 = l.n1; n2 = l.n2 }) ≡ rounds l.fn.k (record { n1 = l.initial.n1; n2 = l.initial.n2 })
