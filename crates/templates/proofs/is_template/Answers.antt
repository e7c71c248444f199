use borrow.Author.Tests.{eq-eqb}
use Rattle.templates.proofs.LeafLaws.{or_ends, template_tags, template_middle, template_last}
use Rattle.templates.proofs.is_template.Goals as goal
use Rattle.templates.proofs.is_template.Goals.{then-tag-eq-TEMPLATE_1, else-tag-eq-TEMPLATE_1}

pub returns-then-tag-eq-TEMPLATE_2 : goal.returns-then-tag-eq-TEMPLATE_2
returns-then-tag-eq-TEMPLATE_2 c =
    elim c.if-tag-eq-TEMPLATE_1.branch [
      | then-tag-eq-TEMPLATE_1 w ↦ template_tags _ _ (or_ends _ (eq-eqb _ _ w.if-tag-eq-TEMPLATE_1.true) w.t-3-is)
      | else-tag-eq-TEMPLATE_1 w ↦ let x = c.if-tag-eq-TEMPLATE_2.either in template_middle _ _ w.if-tag-eq-TEMPLATE_1.false w.t-3-is x
    ]

pub returns-else-tag-eq-TEMPLATE_2 : goal.returns-else-tag-eq-TEMPLATE_2
returns-else-tag-eq-TEMPLATE_2 c = template_last _ c.if-tag-eq-TEMPLATE_2.false.0 c.if-tag-eq-TEMPLATE_2.false.1
