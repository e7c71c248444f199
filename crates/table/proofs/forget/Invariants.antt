use mathlib.Core.Path.{◌≡◌}
use mathlib.Core.List.{◌++◌}
use lib.ListN.{length, drop, take}
use Rattle.table.specs.Calls.{each, cleared_entry}
use Rattle.table.proofs.forget.Given as goal

abbrev pub invariant-loop-e : goal.invariant-loop-e
invariant-loop-e l = (length l.e-items ≡ 64) × (take l.e-index l.e-items ++ each (cleared_entry l.c) (drop l.e-index l.e-items) ≡ each (cleared_entry l.c) l.initial.e-items)
