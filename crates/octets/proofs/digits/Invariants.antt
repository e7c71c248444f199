-- The digits that are left, from the place reached. Assumes nothing.
use Prim.Native.Nat.{◌-◌}
use mathlib.Core.Path.{◌≡◌}
use lib.ListN.{drop}
use Rattle.octets.specs.Digits.{digits}
use Rattle.octets.proofs.digits.Given as goal

abbrev pub invariant-loop-i : goal.invariant-loop-i
invariant-loop-i l = digits l.filler l.n l.s ≡ digits l.filler (l.n - l.i) (drop l.i l.s)
