use Rattle.scripts.proofs.LeafLaws.{open_innermost, open_outside}
use Rattle.scripts.proofs.open_at.Goals as goal

pub returns-then-l-level : goal.returns-then-l-level
returns-then-l-level c = search open_innermost

pub returns-else-l-level : goal.returns-else-l-level
returns-else-l-level c = search open_outside
