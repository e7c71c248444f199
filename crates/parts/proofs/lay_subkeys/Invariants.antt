-- `parts::lay_subkeys` meets its contract: the octets of the subkeys so far, one subkey a turn. Assumes nothing.
use mathlib.Core.Path.{◌≡◌}
use Prim.Native.Nat.{◌*◌}
use lib.ListN.{length, take}
use lib.Seq.{paste}
use Rattle.parts.specs.Forms.{octets_of}
use Rattle.parts.proofs.lay_subkeys.Given as goal

abbrev pub invariant-loop-i : goal.invariant-loop-i
invariant-loop-i l = (length l.b ≡ length l.initial.b) × (l.b ≡ paste l.initial.b 0 (octets_of (take l.i l.ks)) (4 * l.i))
