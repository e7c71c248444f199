use mathlib.Core.Path.{◌≡◌}
use Prim.Native.Nat.{◌+◌, ◌*◌}
use lib.ListN.{drop}
use Rattle.blocks.specs.Blocks.{absorbed}
use Rattle.hash.specs.Hash.{block_step}
use Rattle.hash.proofs.absorb.Given as goal

abbrev pub invariant-loop-i : goal.invariant-loop-i
invariant-loop-i l = absorbed 64 block_step l.core (drop (l.from + 64 * l.i) l.m) ≡ absorbed 64 block_step l.initial.core (drop l.from l.m)
