use borrow.Author.Tests.{eq-eqb, ne_eqb}
use Rattle.templates.specs.Reading.{is_data, stands}
use Rattle.templates.proofs.is_data.Goals as goal

pub returns-then-tag-eq-IDENTIFIER : goal.returns-then-tag-eq-IDENTIFIER
unfolding is_data stands
returns-then-tag-eq-IDENTIFIER c = simp (eq-eqb _ _ c.if-tag-eq-IDENTIFIER.true)

pub returns-else-tag-eq-IDENTIFIER : goal.returns-else-tag-eq-IDENTIFIER
unfolding is_data stands
returns-else-tag-eq-IDENTIFIER c = simp (ne_eqb _ _ c.if-tag-eq-IDENTIFIER.false)
