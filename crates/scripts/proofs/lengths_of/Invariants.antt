use Rattle.scripts.specs.Inner.{Within}
use Rattle.scripts.proofs.lengths_of.Given as goal

abbrev pub invariant-loop-i : goal.invariant-loop-i
invariant-loop-i l = Within l.n l.objects l.i l.lengths
