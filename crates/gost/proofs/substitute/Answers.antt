use Rattle.gost.proofs.Rows.{entries}
use Rattle.gost.proofs.substitute.Goals as goal

pub returns : goal.returns
returns c = let x = c.args.x in
    entries x c.entry-5.result c.entry-6.result c.entry-7.result c.entry-8.result
    c.entry.result c.entry-2.result c.entry-3.result c.entry-4.result
    c.entry-5.ensures.0 c.entry-6.ensures.0 c.entry-7.ensures.0 c.entry-8.ensures.0
    c.entry.ensures.0 c.entry-2.ensures.0 c.entry-3.ensures.0 c.entry-4.ensures.0
