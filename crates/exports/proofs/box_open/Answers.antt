use mathlib.Core.Path.{ap, sym}
use native.Mathlib.Omega.{arith}
use Rattle.std.specs.Prelude.{Result}
use Rattle.answers.specs.declared.Refusal.{Refusal}
use Rattle.shapes.specs.declared.Found.{Found}
use Rattle.exports.specs.Lent.{as_bytes, found_bytes}
use Rattle.exports.proofs.GiveLaws.{given_as}
use Rattle.exports.proofs.OpenLaws.{small}
use Rattle.exports.proofs.box_open.Goals as goal

pub overflow_cast-f : goal.overflow_cast-f
overflow_cast-f c = let w = small _ _ _ _ (sym c.in-Ok.ensures.is) in record { fits = omega (arith, w.0) }

pub overflow_cast-f-in-Ok : goal.overflow_cast-f-in-Ok
overflow_cast-f-in-Ok c = let w = small _ _ _ _ (sym c.in-Ok.ensures.is) in record { fits = omega (arith, w.1) }

pub returns-in-Ok : goal.returns-in-Ok
returns-in-Ok c = given_as 3 (ap (λ (r : Result Found Refusal). as_bytes found_bytes r) c.in-Ok.ensures.is) c.give.ensures

pub returns-in-Err : goal.returns-in-Err
returns-in-Err c = given_as 3 (ap (λ (r : Result Found Refusal). as_bytes found_bytes r) c.in-Err.ensures.is) c.give-in-Err.ensures
