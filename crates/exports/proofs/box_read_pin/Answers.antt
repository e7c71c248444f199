use mathlib.Core.Path.{ap, ◌∙◌}
use Rattle.std.specs.Prelude.{Result, Ok}
use Rattle.answers.specs.declared.Refusal.{Refusal}
use Rattle.pin.specs.declared.Pin.{Pin}
use Rattle.exports.specs.Lent.{as_bytes, pin_bytes}
use Rattle.exports.proofs.GiveLaws.{given_as}
use Rattle.exports.proofs.box_read_pin.Goals as goal

pub returns-in-Ok : goal.returns-in-Ok
returns-in-Ok c =
    given_as 13 (ap Ok c.pin_bytes.ensures ∙ ap (λ (r : Result Pin Refusal). as_bytes pin_bytes r) c.in-Ok.ensures) c.give.ensures

pub returns-in-Err : goal.returns-in-Err
returns-in-Err c = given_as 13 (ap (λ (r : Result Pin Refusal). as_bytes pin_bytes r) c.in-Err.ensures) c.give-in-Err.ensures
