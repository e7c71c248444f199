use borrow.Author.Tests.{eq-eqb, ne_eqb}
use mathlib.Core.Bool.{and-true}
use Rattle.octets.specs.Same.{same}
use Rattle.shapes.specs.Shape.{code_head}
use Rattle.shapes.proofs.is_code_head.Goals as goal

pub returns-then-a-eq142 : goal.returns-then-a-eq142
unfolding same code_head
returns-then-a-eq142 c = simp (eq-eqb _ _ c.if-a-eq142.true, and-true)

pub returns-else-a-eq142 : goal.returns-else-a-eq142
unfolding same code_head
returns-else-a-eq142 c = simp (ne_eqb _ _ c.if-a-eq142.false)
