use mathlib.Core.Path.{◌≡◌}
use Prim.Native.Nat.{◌≤◌, ◌+◌, ◌*◌}
use Rattle.scripts.specs.Writing.{bytes_within}
use Rattle.scripts.specs.Inner.{from}
use Rattle.scripts.proofs.bytes_within.Given as goal

abbrev pub invariant-loop-k : goal.invariant-loop-k
invariant-loop-k l = (l.i ≤ l.k) × (l.k ≤ l.n) × (l.sum ≤ 65540 * l.k) ×
    (l.sum + bytes_within l.level (from l.n l.objects l.k) ≡ bytes_within l.level (from l.n l.objects l.i))
