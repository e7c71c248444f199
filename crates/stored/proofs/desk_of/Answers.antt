use Rattle.stored.proofs.LentLaws.{desk_made}
use borrow.Author.Rules.{rules}
use Rattle.stored.proofs.desk_of.Goals as goal

pub returns : goal.returns
returns c = search (desk_made, rules)
