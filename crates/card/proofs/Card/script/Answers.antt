use Rattle.card.proofs.CallLaws.{none_fits}
use Rattle.card.proofs.Card.script.Goals as goal

pub returns : goal.returns
returns c = c.script_kept.ensures (none_fits _) (none_fits _)
