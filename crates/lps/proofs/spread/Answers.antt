use Rattle.lps.proofs.Columns.{spread_at}
use Rattle.lps.proofs.spread.Goals as goal

pub returns : goal.returns
returns c = spread_at _ _
