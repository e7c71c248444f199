use Prim.Native.Nat.{◌*◌, ◌/◌}
use mathlib.Core.Path.{◌≡◌}
use mathlib.Core.List.{◌++◌}
use lib.ListN.{length, drop, take}
use Rattle.lines.specs.Lines.{longest, octets_of}
use Rattle.frames.proofs.octets_of.Given as goal

abbrev pub invariant-loop-i : goal.invariant-loop-i
invariant-loop-i l = (length l.bytes ≡ longest / 2) × (take l.i l.bytes ++ octets_of (drop (2 * l.i) l.text) ≡ octets_of l.text)
