use native.Mathlib.Omega.{arith}
use mathlib.Core.Path.{refl, ◌∙◌}
use Rattle.lines.specs.Lines.{hex_text}
use Rattle.lines.proofs.SaidLaws.{told_turn, told_end}
use Rattle.lines.proofs.told.Goals as goal

pub loop-i-init : goal.loop-i-init
unfolding hex_text
loop-i-init c = refl

pub loop-i-preserved : goal.loop-i-preserved
loop-i-preserved c = told_turn _ c.requires _ _ c.loop-i.i c.loop-i-test.true (c.copy_from_slice.ensures.after ∙ c.hex.ensures) c.loop-i.invariant

pub returns : goal.returns
returns c = told_end _ c.requires _ _ c.loop-i.i (omega arith) c.loop-i.invariant
