use Rattle.card.proofs.CallLaws.{blank_by}
use Rattle.card.proofs.blank.Goals as goal

pub returns : goal.returns
returns c = search blank_by
