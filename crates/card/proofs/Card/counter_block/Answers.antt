use Rattle.card.proofs.CallLaws.{none_fits}
use Rattle.card.proofs.Card.counter_block.Goals as goal

pub returns : goal.returns
returns c = c.counter_block_kept.ensures (none_fits _)
