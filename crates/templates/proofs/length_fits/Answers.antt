use borrow.Author.Tests.{eq-eqb, ne_eqb}
use Rattle.templates.specs.Reading.{length_fits}
use Rattle.templates.proofs.length_fits.Goals as goal

pub returns-then-tag-ne-IDENTIFIER : goal.returns-then-tag-ne-IDENTIFIER
unfolding length_fits
returns-then-tag-ne-IDENTIFIER c = simp (ne_eqb _ _ c.if-tag-ne-IDENTIFIER.true)

pub returns-else-tag-ne-IDENTIFIER : goal.returns-else-tag-ne-IDENTIFIER
unfolding length_fits
returns-else-tag-ne-IDENTIFIER c = simp (eq-eqb _ _ c.if-tag-ne-IDENTIFIER.false)
