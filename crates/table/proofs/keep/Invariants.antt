use mathlib.Core.Path.{◌≡◌}
use mathlib.Core.List.{◌++◌}
use lib.ListN.{length, drop, take}
use Rattle.table.specs.Calls.{each, kept_entry}
use Rattle.table.proofs.keep.Given as goal

abbrev pub invariant-loop-e : goal.invariant-loop-e
invariant-loop-e l = (length l.e-items ≡ 64) × (take l.e-index l.e-items ++ each (kept_entry l.c l.counter) (drop l.e-index l.e-items) ≡ each (kept_entry l.c l.counter) l.initial.e-items)
