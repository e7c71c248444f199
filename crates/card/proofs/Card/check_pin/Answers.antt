use Rattle.card.proofs.CallLaws.{none_fits}
use Rattle.card.proofs.Card.check_pin.Goals as goal

pub returns : goal.returns
returns c = c.check_pin_kept.ensures (none_fits _)
