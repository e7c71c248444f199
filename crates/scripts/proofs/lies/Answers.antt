use mathlib.Core.Path.{◌∙◌}
use Rattle.shapes.specs.Length.{largest}
use Rattle.scripts.proofs.LeafLaws.{lies_template, lies_long, lies_past, lies_there, past_or}
use Rattle.scripts.proofs.lies.Goals as goal
use Rattle.scripts.proofs.lies.Goals.{then-o-le-LARGEST, else-o-le-LARGEST}

pub returns-then-not-is_data : goal.returns-then-not-is_data
returns-then-not-is_data c = lies_template _ _ _ c.is_data.ensures c.if-not-is_data.true

pub returns-then-o-source : goal.returns-then-o-source
unfolding largest
returns-then-o-source c = lies_there _ _ _ c.is_data.ensures c.if-not-is_data.false c.if-o-source.true.0 c.if-o-source.true.1

pub returns-else-o-source : goal.returns-else-o-source
unfolding largest
returns-else-o-source c =
    elim c.if-o-le-LARGEST.branch [
      | then-o-le-LARGEST w ↦
          w.t-6-is ∙ lies_past _ _ _ c.is_data.ensures c.if-not-is_data.false (past_or c.if-o-source.either w.if-o-le-LARGEST.true)
      | else-o-le-LARGEST w ↦ w.t-6-is ∙ lies_long _ _ _ c.is_data.ensures c.if-not-is_data.false w.if-o-le-LARGEST.false
    ]
