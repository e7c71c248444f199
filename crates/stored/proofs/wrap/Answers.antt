use Rattle.std.proofs.lemmas.Result.{err_from_is_err_and}
use Rattle.stored.proofs.LentLaws.{short, whole, wrap_short_smi, wrap_short_smc, wrap_misfit, wrap_whole, wrap_unfit, wrap_as}
use mathlib.Core.Logic.{inl, inr}
use Rattle.stored.proofs.wrap.Goals.{then-table-ne-TABLE-via-then-table-ne-TABLE, then-table-ne-TABLE-via-else-table-ne-TABLE+then-digits-gt1}
use Rattle.stored.proofs.wrap.Goals as goal

pub returns-in_err-smi : goal.returns-in_err-smi
returns-in_err-smi c =
    let p = err_from_is_err_and c.from_residual.result c.from_residual.ensures.1 in
    let s = short 32 c.args.smi.now _ _ c.exactly.ensures c.in_err-smi.was in
    rw (p.1, p.2, s.1) (wrap_unfit _ _ _ _ _ _ _ _ _ _ _ (wrap_short_smi _ _ _ _ s.0))

pub returns-in_err-smc : goal.returns-in_err-smc
returns-in_err-smc c =
    let p = err_from_is_err_and c.from_residual-in_err-smc.result c.from_residual-in_err-smc.ensures.1 in
    let s = short 32 c.args.smc.now _ _ c.exactly-2.ensures c.in_err-smc.was in
    rw (p.1, p.2, s.1) (wrap_unfit _ _ _ _ _ _ _ _ _ _ _ (wrap_short_smc _ _ _ _ s.0))

pub returns-then-table-ne-TABLE : goal.returns-then-table-ne-TABLE
returns-then-table-ne-TABLE c =
    wrap_unfit _ _ _ _ _ _ _ _ _ _ _ (wrap_misfit _ _ _ _
    (elim c.then-table-ne-TABLE.branch [
      | then-table-ne-TABLE-via-then-table-ne-TABLE w ↦ inl w.if-table-ne-TABLE.true
      | then-table-ne-TABLE-via-else-table-ne-TABLE+then-digits-gt1 w ↦ inr w.if-digits-gt1.true
    ]))

pub returns : goal.returns
returns c =
    let s = whole 32 c.args.smi.now _ _ c.exactly.ensures c.in_ok-smi.was in
    let t = whole 32 c.args.smc.now _ _ c.exactly-2.ensures c.in_ok-smc.was in
    wrap_as _ _ _ _ _ _ _ _ _ _ _ (wrap_whole _ _ _ _ c.if-table-ne-TABLE.false s.0 t.0 c.if-digits-gt1.false) _ _ _ _ _ s.1 t.1 c.desk_of-lent.ensures c.wrap.ensures
