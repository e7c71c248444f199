use Rattle.card.proofs.CallLaws.{none_fits}
use Rattle.card.proofs.Card.issuer_answer.Goals as goal

pub returns : goal.returns
returns c = c.issuer_answer_kept.ensures (none_fits _)
