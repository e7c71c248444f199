use mathlib.Core.Path.{◌≡◌}
use lib.ListN.{replicate}
use lib.Seq.{paste}
use Rattle.derive.specs.Hmac.{key_pad}
use Rattle.derive.proofs.pad.Given as goal

abbrev pub invariant-loop-i : goal.invariant-loop-i
invariant-loop-i l = l.out ≡ paste (replicate 64 l.p) 0 (key_pad l.p l.key) l.i
