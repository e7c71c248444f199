use Rattle.lps.proofs.Columns.{Upto}
use Rattle.lps.proofs.column.Given as goal

abbrev pub invariant-loop-j : goal.invariant-loop-j
invariant-loop-j l = Upto l.initial.x l.u l.v l.w l.k l.x l.r l.j
