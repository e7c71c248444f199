use native.Mathlib.Omega.{arith}
use Rattle.exports.proofs.GiveLaws.{given_length, given_refused, given_yes}
use Rattle.exports.proofs.give.Goals as goal

pub returns-then-out : goal.returns-then-out
returns-then-out g c = given_length _ _ _ (λ e. omega arith) c.number.ensures

pub returns-in-Ok : goal.returns-in-Ok
returns-in-Ok g c = given_yes _ _ _ c.if-out.false _ c.in-Ok.is _ c.copy_from_slice.ensures.after

pub returns-in-Err : goal.returns-in-Err
returns-in-Err g c = given_refused _ _ _ c.if-out.false _ c.in-Err.is c.number-in-Err.ensures
