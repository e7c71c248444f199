use mathlib.Core.Path.{sym, ◌∙◌}
use mathlib.Core.Bool.{true≢false}
use Rattle.shapes.proofs.CommandLaws.{not_header, not_tag, its_header}
use Rattle.shapes.proofs.command.Command.is_for.Goals as goal
use Rattle.shapes.proofs.command.Command.is_for.Goals.{then-same, else-same}

pub returns-then-tag : goal.returns-then-tag
returns-then-tag c =
    elim c.if-same.branch [
      | then-same w ↦
          its_header _ _ _ _ _ c.header.ensures _ c.same.ensures w.if-same.true _ w.tag.ensures _ w.value-is c.if-tag.true _ c.length.ensures
      | else-same w ↦ absurd (true≢false (sym c.if-tag.true ∙ w.value-is ∙ w.if-same.false))
    ]

pub returns-else-tag : goal.returns-else-tag
returns-else-tag c =
    elim c.if-same.branch [
      | then-same w ↦ not_tag _ _ _ _ _ c.header.ensures _ c.same.ensures w.if-same.true _ w.tag.ensures _ w.value-is c.if-tag.false
      | else-same w ↦ not_header _ _ _ _ _ c.header.ensures _ c.same.ensures _ w.value-is c.if-tag.false
    ]
