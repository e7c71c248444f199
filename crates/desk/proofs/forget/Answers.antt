use mathlib.Core.Bool.{not}
use mathlib.Core.Path.{ap}
use borrow.Author.Rules.{rules}
use Rattle.std.proofs.lemmas.Result.{err_from_is_err_and}
use Rattle.desk.proofs.DeskLaws.{card_small, forget_two, forget_told}
use Rattle.desk.proofs.forget.Goals as goal

pub returns-then-not-card_fits : goal.returns-then-not-card_fits
returns-then-not-card_fits c = search (forget_two, rules)

pub id_of-requires : goal.id_of-requires
id_of-requires c = card_small _ _ _ c.card_fits.ensures (ap not c.if-not-card_fits.false)

pub returns-in_err-places : goal.returns-in_err-places
returns-in_err-places c =
    let p = err_from_is_err_and c.from_residual.result c.from_residual.ensures.1 in
    rw (p.1, p.2) (forget_told _ _ _ _ c.card_fits.ensures (ap not c.if-not-card_fits.false) _ c.id_of.ensures _ _ c.in_err-places.was c.forget.ensures)

pub returns : goal.returns
returns c = forget_told _ _ _ _ c.card_fits.ensures (ap not c.if-not-card_fits.false) _ c.id_of.ensures _ _ c.in_ok-places.was c.forget.ensures
