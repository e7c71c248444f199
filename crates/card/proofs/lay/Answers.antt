use Rattle.card.proofs.CallLaws.{laid_none, laid_some}
use Rattle.card.proofs.lay.Goals as goal

pub returns-else-t-ne0 : goal.returns-else-t-ne0
returns-else-t-ne0 c = search laid_none

pub returns-then-t-ne0 : goal.returns-then-t-ne0
returns-then-t-ne0 c = search laid_some
