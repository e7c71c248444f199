use borrow.Author.Tests.{eq-eqb, ne_eqb}
use Rattle.templates.specs.Reading.{within}
use Rattle.templates.proofs.Holder.within.Goals as goal

pub returns-then-tag-eq-OUTER : goal.returns-then-tag-eq-OUTER
unfolding within
returns-then-tag-eq-OUTER c = simp (eq-eqb _ _ c.if-tag-eq-OUTER.true)

pub returns-else-tag-eq-OUTER : goal.returns-else-tag-eq-OUTER
unfolding within
returns-else-tag-eq-OUTER c = simp (ne_eqb _ _ c.if-tag-eq-OUTER.false)
