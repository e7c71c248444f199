use Rattle.card.proofs.CallLaws.{fresh_mark, fresh_tries, fresh_format, fresh_done}
use Rattle.card.proofs.Card.personalise.Goals as goal
use Rattle.card.proofs.Card.personalise.Goals.{then-mark-gt1-via-then-mark-gt1, then-mark-gt1-via-else-mark-gt1+then-tries-gt-FULL_TRIES}

pub returns-then-mark-gt1 : goal.returns-then-mark-gt1
returns-then-mark-gt1 c = elim c.then-mark-gt1.branch [ then-mark-gt1-via-then-mark-gt1 w ↦ search fresh_mark | then-mark-gt1-via-else-mark-gt1+then-tries-gt-FULL_TRIES w ↦ search fresh_tries ]

pub returns-in_default : goal.returns-in_default
returns-in_default c = search fresh_format

pub returns : goal.returns
returns c = search fresh_done
