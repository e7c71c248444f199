use borrow.Author.Tests.{eq-eqb, ne_eqb}
use Rattle.templates.specs.Reading.{ahead}
use Rattle.templates.proofs.ahead.Goals as goal

pub returns-then-tag-eq-IDENTIFIER : goal.returns-then-tag-eq-IDENTIFIER
unfolding ahead
returns-then-tag-eq-IDENTIFIER c = simp (eq-eqb _ _ c.if-tag-eq-IDENTIFIER.true)

pub returns-else-tag-eq-IDENTIFIER : goal.returns-else-tag-eq-IDENTIFIER
unfolding ahead
returns-else-tag-eq-IDENTIFIER c = simp (ne_eqb _ _ c.if-tag-eq-IDENTIFIER.false)
