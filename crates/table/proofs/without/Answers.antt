use Rattle.table.proofs.Turns.{cleared_yes, cleared_no}
use Rattle.table.proofs.without.Goals as goal

pub returns-then-is_for : goal.returns-then-is_for
returns-then-is_for c = search cleared_yes

pub returns-else-is_for : goal.returns-else-is_for
returns-else-is_for c = search cleared_no
