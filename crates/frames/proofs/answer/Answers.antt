use Rattle.card.proofs.MasterLaws.{none_fit}
use Rattle.frames.proofs.answer.Goals as goal

pub returns : goal.returns
returns c = c.answer_kept.ensures (none_fit _)
