use mathlib.Core.Path.{refl, sym, ap}
use mathlib.Core.List.{List}
use Prim.Native.Nat.{ℕ}
use lib.ListN.{length, take}
use Rattle.std.specs.Prelude.{Result}
use Rattle.answers.specs.declared.Refusal.{Refusal}
use Rattle.keys.proofs.AnswerLaws.{idn_long}
use Rattle.exports.specs.Lent.{as_bytes}
use Rattle.exports.proofs.GiveLaws.{given_as, given_one, given_refused, given_yes}
use Rattle.exports.proofs.box_idn.Goals as goal

pub returns-then-n-gt8 : goal.returns-then-n-gt8
returns-then-n-gt8 c = let x = c.args in
    let o = x.out.now in
    given_as (length o) (ap (λ (r : Result (List ℕ) Refusal). as_bytes (take (length o)) r) (idn_long x.key.now x.counter (length o) c.if-n-gt8.true))
    (given_one (length o) o c.number.ensures)

pub returns-in-Ok : goal.returns-in-Ok
returns-in-Ok c = let o = c.args.out.now in
    given_yes (length o) _ o refl _ (sym (ap (λ (r : Result (List ℕ) Refusal). as_bytes (take (length o)) r) c.in-Ok.ensures)) _ c.copy_from_slice.ensures.after

pub returns-in-Err : goal.returns-in-Err
returns-in-Err c = let o = c.args.out.now in
    given_refused (length o) _ o refl _ (sym (ap (λ (r : Result (List ℕ) Refusal). as_bytes (take (length o)) r) c.in-Err.ensures)) c.number-in-Err.ensures
