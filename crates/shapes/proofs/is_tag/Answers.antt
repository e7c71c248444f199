use borrow.Author.Tests.{eq-eqb, ne_eqb}
use Rattle.shapes.specs.Shape.{tag_fits}
use Rattle.shapes.proofs.is_tag.Goals as goal

pub returns-then-tag-eq135 : goal.returns-then-tag-eq135
unfolding tag_fits
returns-then-tag-eq135 c = simp (eq-eqb _ _ c.if-tag-eq135.true)

pub returns-else-tag-eq135 : goal.returns-else-tag-eq135
unfolding tag_fits
returns-else-tag-eq135 c = simp (ne_eqb _ _ c.if-tag-eq135.false)
