use mathlib.Core.Path.{◌≡◌}
use mathlib.Core.List.{◌++◌}
use Prim.Native.Nat.{◌*◌}
use lib.ListN.{take, drop}
use Rattle.templates.specs.Lent.{laid_objects}
use Rattle.templates.proofs.lay_objects.Given as goal

abbrev pub invariant-loop-i : goal.invariant-loop-i
invariant-loop-i l = l.out ≡ laid_objects (take l.i l.fn.objects) ++ drop (l.i * 10) l.initial.out
