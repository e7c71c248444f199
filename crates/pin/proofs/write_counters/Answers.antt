use Rattle.pin.proofs.CounterLaws.{block_made}
use borrow.Author.Rules.{rules}
use Rattle.pin.proofs.write_counters.Goals as goal

pub returns : goal.returns
returns c = search (rules, block_made)
