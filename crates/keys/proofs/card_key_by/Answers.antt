use mathlib.Core.Path.{◌≡◌, sym, ap, ◌∙◌}
use borrow.Author.Tests.{not-false}
use Rattle.octets.specs.Digits.{digits}
use Rattle.derive.specs.Answers.{card_derivation}
use Rattle.octets.specs.Digits.{pairs}
use Rattle.keys.specs.CardNumber.{X, sixteen}
use Rattle.octets.proofs.DigitLaws.{length_pairs}
use Rattle.keys.proofs.CardLaws.{fits, sixteen_digits, length-sixteen}
use Rattle.keys.proofs.AnswerLaws.{card_no_key, card_no_card, card_yes}
use mathlib.Core.Bool.{not}
use Rattle.keys.proofs.card_key_by.Goals as goal

pub returns-then-key-ne32 : goal.returns-then-key-ne32
returns-then-key-ne32 c = card_no_key _ _ _ _ c.if-key-ne32.true

pub returns-then-not-card_fits : goal.returns-then-not-card_fits
returns-then-not-card_fits c = card_no_card _ _ _ _ c.if-key-ne32.false c.card_fits.result c.card_fits.ensures (ap not c.if-not-card_fits.true)

pub pair_up-requires : goal.pair_up-requires
pair_up-requires c = let f = fits _ _ (sym c.card_fits.ensures ∙ not-false _ (ap not c.if-not-card_fits.false)) in
    (c.requires, ap (digits 0 16) c.sixteen.ensures ∙ sixteen_digits _ _ f)

pub returns : goal.returns
returns c = let x = c.args in
    let s = sixteen (X x.pan.now x.sequence) in
    let y : c.pair_up.result ≡ pairs x.base s = c.pair_up.ensures ∙ ap (pairs x.base) c.sixteen.ensures in
    c.derive.ensures ∙ ap (card_derivation x.key.now) y
    ∙ card_yes x.key.now x.pan.now x.sequence (pairs x.base s) c.if-key-ne32.false c.card_fits.result c.card_fits.ensures (ap not c.if-not-card_fits.false) (length_pairs x.base s 8 (length-sixteen (X x.pan.now x.sequence)))
