use Rattle.templates.proofs.HeadLaws.{size_fits}
use Rattle.scripts.proofs.LeafLaws.{headed}
use borrow.Author.Rules.{rules}
use Rattle.scripts.proofs.head_size.Goals as goal

pub overflow_add-result : goal.overflow_add-result
overflow_add-result c = search (rules, size_fits)

pub returns : goal.returns
returns c = search headed
