use Rattle.cryptogram.proofs.DataLaws.{twice_made}
use borrow.Author.Rules.{rules}
use Rattle.cryptogram.proofs.twice.Goals as goal

pub returns : goal.returns
returns c = search (rules, twice_made)
