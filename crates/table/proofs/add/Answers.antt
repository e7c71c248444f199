use mathlib.Core.Bool.{not}
use Rattle.std.proofs.Common.{rules, tests}
use Rattle.std.proofs.lemmas.Iterator.{YieldsList-from_slice}
use Rattle.std.proofs.lemmas.Iterator.Search.{position_from_yields_List}
use Rattle.std.proofs.lemmas.Result.{err_from_is_err_and}
use Rattle.table.specs.declared.Entry.{Entry}
use Rattle.table.proofs.Turns.{add_held, add_no_room, add_done}
use Rattle.table.proofs.add.Goals as goal

pub returns-then-is_held : goal.returns-then-is_held
returns-then-is_held c = search (add_held, rules)

pub returns-in_err-i : goal.returns-in_err-i
returns-in_err-i c =
    let p = err_from_is_err_and c.from_residual.result c.from_residual.ensures.1 in
    rw (p.1, p.2) (add_no_room _ _ _ c.is_held.ensures c.if-is_held.false _
    (position_from_yields_List (λ (e : Entry). not e.held) _ _ c.position.result c.position.ensures.ran (YieldsList-from_slice c.args.places c.iter.ensures.rest) (λ x b q k. search (rules, tests)))
    _ c.ok_or.ensures.value _ c.in_err-i.was)

pub returns : goal.returns
returns c =
    add_done _ _ _ c.is_held.ensures c.if-is_held.false _
    (position_from_yields_List (λ (e : Entry). not e.held) _ _ c.position.result c.position.ensures.ran (YieldsList-from_slice c.args.places c.iter.ensures.rest) (λ x b q k. search (rules, tests)))
    _ c.ok_or.ensures.value _ _ c.in_ok-i.was c.fresh.ensures
