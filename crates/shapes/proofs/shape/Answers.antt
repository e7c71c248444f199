use Rattle.shapes.proofs.AnswerLaws.{tells_shaped, shape_most, shape_long, shape_tag, shape_head, shape_yes}
use native.Mathlib.Omega.{arith}
use Rattle.shapes.specs.Length.{largest}
use Rattle.shapes.proofs.LengthLaws.{place_small}
use mathlib.Core.Bool.{not}
use mathlib.Core.Path.{ap}
use Rattle.shapes.proofs.shape.Goals as goal
use Rattle.shapes.proofs.shape.Goals.{then-message-end-via-then-message-end, then-message-end-via-else-message-end+then-not-is_tag, then-message-end-via-else-message-end+else-not-is_tag+then-not-is_code_head}

pub returns-then-length-gt-LARGEST : goal.returns-then-length-gt-LARGEST
unfolding largest
returns-then-length-gt-LARGEST c = tells_shaped _ (shape_most _ _ c.length_of-length.ensures c.if-length-gt-LARGEST.true)

pub overflow_add-end : goal.overflow_add-end
overflow_add-end c = record { fits = omega (arith, place_small c.length_of-length.result) }

pub overflow_add-end-2 : goal.overflow_add-end-2
overflow_add-end-2 c = record { fits = omega (arith, place_small c.length_of-length.result) }

pub returns-then-message-end : goal.returns-then-message-end
returns-then-message-end c =
    let k = shape_long _ _ c.length_of-length.ensures _ c.place_of-place.ensures in
    elim c.then-message-end.branch [
      | then-message-end-via-then-message-end w ↦ tells_shaped _ (k (λ e. omega arith))
      | then-message-end-via-else-message-end+then-not-is_tag w ↦
          tells_shaped _ (shape_tag _ _ c.length_of-length.ensures _ c.place_of-place.ensures _ w.is_tag.ensures (ap not w.if-not-is_tag.true))
      | then-message-end-via-else-message-end+else-not-is_tag+then-not-is_code_head w ↦
          tells_shaped _ (shape_head _ _ c.length_of-length.ensures _ c.place_of-place.ensures _ w.is_code_head.ensures (ap not w.if-not-is_code_head.true))
    ]

pub returns : goal.returns
unfolding largest
returns c =
    tells_shaped _
    (shape_yes _ _ c.length_of-length.ensures _ c.place_of-place.ensures c.if-length-gt-LARGEST.false c.if-message-end.false _ c.is_tag.ensures (ap not c.if-not-is_tag.false) _
    c.is_code_head.ensures (ap not c.if-not-is_code_head.false))
