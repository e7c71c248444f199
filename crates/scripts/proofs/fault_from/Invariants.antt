use mathlib.Core.Path.{◌≡◌}
use Prim.Native.Nat.{◌≤◌}
use Rattle.templates.specs.declared.Holder.TheVariants.{Outer}
use Rattle.scripts.specs.Writing.{said, fault_from}
use Rattle.scripts.specs.Inner.{from}
use Rattle.scripts.proofs.fault_from.Given as goal

abbrev pub invariant-loop-i : goal.invariant-loop-i
invariant-loop-i l = (l.i ≤ l.n) × (l.i ≤ 32) ×
    (fault_from l.level l.holder l.i (from l.n l.objects l.i) ≡ fault_from 1 Outer 0 (said l.objects))
