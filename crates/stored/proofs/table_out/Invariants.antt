use mathlib.Core.Path.{◌≡◌}
use lib.ListN.{length}
use Rattle.stored.proofs.FormLaws.{Out}
use Rattle.stored.proofs.table_out.Given as goal

abbrev pub invariant-loop-i : goal.invariant-loop-i
invariant-loop-i l = (length l.initial.b ≡ 1600) × (length l.e-items ≡ 64) × Out l.initial.b l.b l.e-items l.i
