use Rattle.card.proofs.CallLaws.{none_fits}
use Rattle.card.proofs.Card.open.Goals as goal

pub returns : goal.returns
returns c = c.open_kept.ensures (none_fits _)
