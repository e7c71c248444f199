use mathlib.Core.Path.{ap, ap₂, ◌∙◌}
use Rattle.derive.specs.Derivation.{string, card_label}
use Rattle.derive.specs.Answers.{maced}
use Rattle.derive.proofs.Laws.{exact, not_exact, derivation_maced, card_no_seed, card_seed}
use Rattle.derive.proofs.derive.Goals as goal

pub returns-in_err-exactly : goal.returns-in_err-exactly
returns-in_err-exactly c = let h = not_exact 8 _ _ c.exactly.ensures c.in_err-exactly.was _ c.from_residual.ensures.1 in h.1 ∙ card_no_seed _ _ h.0

pub returns : goal.returns
returns c = let a = c.args in
    let key = a.key.now in
    let seed = a.seed.now in
    let e = exact 8 _ _ c.exactly.ensures c.in_ok-exactly.was in
    c.hmac.ensures
    ∙ ap (maced key) (c.string.ensures ∙ ap₂ string c.card_label.ensures e.1)
    ∙ derivation_maced key card_label seed
    ∙ card_seed key seed e.0
