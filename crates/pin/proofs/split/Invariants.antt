use mathlib.Core.Path.{◌≡◌}
use Prim.Native.Nat.{◌*◌, ◌≤◌}
use lib.Seq.{paste}
use Rattle.pin.specs.PinBlock.{nibbles}
use Rattle.pin.proofs.split.Given as goal

abbrev pub invariant-loop-i : goal.invariant-loop-i
invariant-loop-i l = (l.i ≤ 8) × (l.r ≡ paste l.initial.r 0 (nibbles l.b) (2 * l.i))
