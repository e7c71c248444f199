use borrow.Author.Rules.{rules}
use Rattle.desk.proofs.DeskLaws.{counter_made}
use Rattle.desk.proofs.counter_in.Goals as goal

pub returns : goal.returns
returns c = search (counter_made, rules)
