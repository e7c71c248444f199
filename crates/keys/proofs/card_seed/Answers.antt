use mathlib.Core.Path.{sym, ap, ◌∙◌}
use borrow.Author.Tests.{not-false}
use Rattle.octets.specs.Digits.{digits, pairs}
use Rattle.keys.specs.CardNumber.{Y}
use Rattle.keys.proofs.CardLaws.{fits, sixteen_digits}
use Rattle.keys.proofs.AnswerLaws.{seed_no, seed_yes}
use native.Mathlib.Omega.{arith}
use mathlib.Core.Bool.{not}
use Rattle.keys.proofs.card_seed.Goals as goal

pub returns-then-not-card_fits : goal.returns-then-not-card_fits
returns-then-not-card_fits c = seed_no _ _ c.card_fits.result c.card_fits.ensures (ap not c.if-not-card_fits.true)

pub pair_up-requires : goal.pair_up-requires
pair_up-requires c = let f = fits _ _ (sym c.card_fits.ensures ∙ not-false _ (ap not c.if-not-card_fits.false)) in
    (omega arith, ap (digits 0 16) c.sixteen.ensures ∙ sixteen_digits _ _ f)

pub returns : goal.returns
unfolding Y
returns c = let t = c.card_fits in
    seed_yes _ _ t.result t.ensures (ap not c.if-not-card_fits.false) _ (c.pair_up.ensures ∙ ap (pairs 10) c.sixteen.ensures)
