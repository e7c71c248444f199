use Rattle.trace.proofs.FeedLaws.{end_empty, end_line}
use Rattle.card.proofs.MasterLaws.{none_fit}
use Rattle.trace.proofs.end.Goals as goal

pub returns-then-t-eq0 : goal.returns-then-t-eq0
returns-then-t-eq0 c = search end_empty

pub complete-requires : goal.complete-requires
complete-requires c = none_fit _

pub returns : goal.returns
returns c = search end_line
