use borrow.Author.Rules.{rules}
use Rattle.std.proofs.Common.{arith, tests}
use Rattle.desk.specs.Check.{checks}
use Rattle.desk.proofs.DeskLaws.{card_small, card_good, check_two, check_unknown, check_held}
use mathlib.Core.Bool.{not}
use mathlib.Core.Path.{ap}
use Rattle.desk.proofs.check.Goals as goal

pub returns-then-data-ne65 : goal.returns-then-data-ne65
unfolding checks
returns-then-data-ne65 c = grind (arith, tests)

pub returns-then-not-card_fits : goal.returns-then-not-card_fits
returns-then-not-card_fits c = search (check_two, rules)

pub id_of-c-requires : goal.id_of-c-requires
id_of-c-requires c = card_small _ _ _ c.card_fits.ensures (ap not c.if-not-card_fits.false)

pub returns-then-not-is_held : goal.returns-then-not-is_held
returns-then-not-is_held c = search (check_unknown, rules)

pub session_of-key-requires : goal.session_of-key-requires
session_of-key-requires c = card_good _ _ _ c.card_fits.ensures (ap not c.if-not-card_fits.false)

pub returns : goal.returns
returns c = search (check_held, rules)
