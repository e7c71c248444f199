use Rattle.table.proofs.Turns.{kept_yes, kept_no}
use Rattle.table.proofs.with.Goals as goal

pub returns-then-is_for : goal.returns-then-is_for
returns-then-is_for c = search kept_yes

pub returns-else-is_for : goal.returns-else-is_for
returns-else-is_for c = search kept_no
