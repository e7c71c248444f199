use Prim.Native.Nat.{◌-◌, ◌*◌}
use mathlib.Core.Path.{◌≡◌}
use mathlib.Core.List.{◌++◌}
use lib.ListN.{take, replicate}
use Rattle.lines.specs.Lines.{hex_text}
use Rattle.lines.specs.Said.{longest_answer}
use Rattle.lines.proofs.told.Given as goal

abbrev pub invariant-loop-i : goal.invariant-loop-i
invariant-loop-i l = l.answer ≡ hex_text (take l.i l.octets) ++ replicate (longest_answer - 2 * l.i) 0
