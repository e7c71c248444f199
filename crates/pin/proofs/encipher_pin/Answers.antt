use mathlib.Core.Path.{ap, ◌∙◌}
use Rattle.std.specs.Prelude.{Ok}
use Rattle.cipher.proofs.AnswerLaws.{exact, not_exact}
use Rattle.pin.proofs.AnswerLaws.{encipher_no_key, encipher_refused, encipher_made, encipher_yes}
use Rattle.pin.proofs.encipher_pin.Goals as goal

pub returns-in_err-exactly : goal.returns-in_err-exactly
returns-in_err-exactly c = let h = not_exact 32 _ _ c.exactly.ensures c.in_err-exactly.was _ c.from_residual.ensures.1 in h.1 ∙ encipher_no_key _ _ h.0

pub returns-in_err-write_pin : goal.returns-in_err-write_pin
returns-in_err-write_pin c =
    let k = exact 32 _ _ c.exactly.ensures c.in_ok-exactly.was in
    encipher_refused _ _ k.0 c.write_pin.ensures _ c.in_err-write_pin.was _ c.from_residual-in_err-write_pin.ensures.1

pub returns : goal.returns
returns c =
    let k = exact 32 _ _ c.exactly.ensures c.in_ok-exactly.was in
    ap Ok (encipher_made _ c.expand-k.ensures k.1 c.encipher_with.ensures) ∙ encipher_yes _ _ k.0 c.write_pin.ensures _ c.in_ok-write_pin.was
