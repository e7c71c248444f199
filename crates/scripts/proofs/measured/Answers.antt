use mathlib.Core.Path.{◌∙◌}
use Rattle.scripts.proofs.WithinLaws.{firsts_min}
use Rattle.scripts.proofs.measured.Goals as goal

pub returns : goal.returns
returns c = c.min.ensures ∙ firsts_min c.args.n
