use Rattle.scripts.proofs.LeafLaws.{level_template, level_data}
use Rattle.scripts.proofs.level_after.Goals as goal

pub returns-then-is_template : goal.returns-then-is_template
returns-then-is_template c = search level_template

pub returns-else-is_template : goal.returns-else-is_template
returns-else-is_template c = search level_data
