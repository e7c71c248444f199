use Rattle.templates.proofs.LentLaws.{laid_none, laid_turn, laid_all}
use mathlib.Core.Path.{◌∙◌}
use native.Mathlib.Omega.{arith}
use borrow.Author.Rules.{rules}
use Rattle.templates.proofs.lay_objects.Goals as goal

pub loop-i-init : goal.loop-i-init
loop-i-init c = laid_none c.args.objects _

pub loop-i-preserved : goal.loop-i-preserved
loop-i-preserved c = laid_turn _ _ _ _ _ _ _ (search rules) c.loop-i.invariant (omega arith) (c.copy_from_slice.ensures.after ∙ c.lay_object.ensures)

pub returns : goal.returns
returns c = laid_all _ _ _ _ (search rules) (search rules) (search rules) c.loop-i.invariant
