use borrow.Author.Rules.{rules}
use Rattle.desk.proofs.DeskLaws.{above_none, above_some, above_err}
use Rattle.desk.proofs.above_last.Goals as goal

pub returns-then-not-l : goal.returns-then-not-l
returns-then-not-l c = search (above_none, rules)

pub returns-else-not-l : goal.returns-else-not-l
returns-else-not-l c = search (above_some, rules)

pub returns-in-Err : goal.returns-in-Err
returns-in-Err c = search (above_err, rules)
