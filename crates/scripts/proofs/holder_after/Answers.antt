use Rattle.scripts.proofs.LeafLaws.{holder_template, holder_data}
use Rattle.scripts.proofs.holder_after.Goals as goal

pub returns-then-is_template : goal.returns-then-is_template
returns-then-is_template c = search holder_template

pub returns-else-is_template : goal.returns-else-is_template
returns-else-is_template c = search holder_data
