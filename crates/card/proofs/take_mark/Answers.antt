use Rattle.card.proofs.CallLaws.{mark_taken}
use Rattle.card.proofs.take_mark.Goals as goal

pub returns : goal.returns
returns c = search mark_taken
