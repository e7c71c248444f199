use mathlib.Core.Path.{sym, ap, ◌∙◌}
use mathlib.Core.Bool.{not}
use borrow.Author.Tests.{not-false}
use Rattle.std.specs.Prelude.{Ok}
use Rattle.pin.proofs.AnswerLaws.{write_no_digits, write_yes}
use Rattle.pin.proofs.write_pin.Goals as goal

pub returns-then-not-pin_fits : goal.returns-then-not-pin_fits
returns-then-not-pin_fits c = search write_no_digits

pub block_of-requires : goal.block_of-requires
block_of-requires c = sym c.pin_fits.ensures ∙ not-false _ (ap not c.if-not-pin_fits.false)

pub returns : goal.returns
returns c = ap Ok c.block_of.ensures ∙ write_yes _ _ c.pin_fits.ensures (ap not c.if-not-pin_fits.false)
