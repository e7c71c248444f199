use mathlib.Core.Path.{◌≡◌}
use Prim.Native.Nat.{◌≤◌}
use lib.ListN.{length}
use Rattle.octets.specs.Laid.{laid}
use Rattle.scripts.specs.Writing.{said, bytes_of}
use Rattle.scripts.specs.Inner.{from}
use Rattle.scripts.proofs.WriteLaws.{Left}
use Rattle.scripts.proofs.write_objects.Given as goal

abbrev pub invariant-loop-i : goal.invariant-loop-i
invariant-loop-i l = (l.i ≤ l.n) × (length l.out ≡ length l.initial.out) × Left l.n l.objects l.source l.i (length l.initial.out) l.place ×
    (laid l.out l.place (bytes_of l.source (from l.n l.objects l.i)) ≡ laid l.initial.out l.at (bytes_of l.source (said l.objects)))
