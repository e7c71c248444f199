use Rattle.blocks.proofs.PartLaws.{fits_most}
use Rattle.hash.proofs.Laws.{fed_not, fed_fits}
use borrow.Author.Rules.{rules}
use mathlib.Core.Bool.{not}
use mathlib.Core.Path.{ap}
use Rattle.hash.proofs.feed.Goals as goal

pub returns-then-not-fits : goal.returns-then-not-fits
returns-then-not-fits c = search (fed_not, rules)

pub overflow_cast-total : goal.overflow_cast-total
overflow_cast-total c = let h = fits_most _ _ _ c.fits.ensures (ap not c.if-not-fits.false) in search (rules, h)

pub overflow_add-total : goal.overflow_add-total
overflow_add-total c = let h = fits_most _ _ _ c.fits.ensures (ap not c.if-not-fits.false) in search (rules, h)

pub returns : goal.returns
returns c = search (fed_fits, rules)
