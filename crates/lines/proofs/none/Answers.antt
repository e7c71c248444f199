use Rattle.lines.proofs.SaidLaws.{none_made}
use Rattle.lines.proofs.none.Goals as goal

pub returns : goal.returns
returns c = search none_made
