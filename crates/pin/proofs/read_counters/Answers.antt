use Rattle.pin.proofs.CounterLaws.{counters_made}
use borrow.Author.Rules.{rules}
use Rattle.pin.proofs.read_counters.Goals as goal

pub returns : goal.returns
returns c = search (rules, counters_made)
