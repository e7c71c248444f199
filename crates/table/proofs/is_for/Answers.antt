use mathlib.Core.Path.{◌∙◌}
use Rattle.table.specs.Table.{names}
use Rattle.table.proofs.Turns.{id_derived}
use Rattle.table.proofs.is_for.Goals as goal

pub returns-then-e : goal.returns-then-e
unfolding names
returns-then-e c = rw c.if-e.true (c.eq.ensures ∙ id_derived c.args.c c.args.e.id)

pub returns-else-e : goal.returns-else-e
unfolding names
returns-else-e c = rw c.if-e.false
