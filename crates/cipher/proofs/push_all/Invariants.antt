use mathlib.Core.Path.{◌≡◌}
use lib.ListN.{take}
use Rattle.blocks.specs.Parts.{poured}
use Rattle.cipher.specs.Coding.{code_way}
use Rattle.cipher.proofs.push_all.Given as goal

abbrev pub invariant-loop-b : goal.invariant-loop-b
invariant-loop-b l = l.t ≡ poured code_way l.initial.t (take l.b-index l.m) l.initial.t.total
