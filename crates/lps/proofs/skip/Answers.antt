use Rattle.lps.proofs.Columns.{skipped_none, skipped_upper}
use mathlib.Core.Bool.{not}
use mathlib.Core.Path.{ap}
use Rattle.lps.proofs.skip.Goals as goal

pub returns-then-not-upper : goal.returns-then-not-upper
returns-then-not-upper c = skipped_none c.args.upper c.args.x.now c.requires (ap not c.if-not-upper.true)

pub returns : goal.returns
returns c = skipped_upper c.args.upper c.args.x.now c.requires (ap not c.if-not-upper.false)
