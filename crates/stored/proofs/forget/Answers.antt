use mathlib.Core.Path.{ap, ◌∙◌, sym}
use native.Mathlib.Omega.{arith}
use Rattle.std.proofs.lemmas.Result.{err_from_is_err_and}
use Rattle.desk.specs.declared.Desk.{Desk}
use Rattle.desk.specs.Desk.{forgets}
use Rattle.stored.proofs.LentLaws.{table_not, table_so, lent_not, lent_so, kept_not, kept_so}
use Rattle.stored.proofs.forget.Goals as goal

pub returns-then-table-ne-TABLE : goal.returns-then-table-ne-TABLE
returns-then-table-ne-TABLE c = kept_not _ _ _ (lent_not _ _ (table_not _ (λ e. omega arith)))

pub returns-in_err-d : goal.returns-in_err-d
returns-in_err-d c =
    let p = err_from_is_err_and c.from_residual.result c.from_residual.ensures.1 in
    rw (p.1, p.2) (kept_not _ _ _ (lent_so _ _ _ (table_so _ c.if-table-ne-TABLE.false)
    (sym (c.forget.ensures ∙ ap (λ (d : Desk). forgets d c.args.pan.now c.args.sequence) c.desk_of-lent.ensures) ∙ c.in_err-d.was)))

pub returns : goal.returns
returns c =
    kept_so _ _ _ _ (lent_so _ _ _ (table_so _ c.if-table-ne-TABLE.false)
    (sym (c.forget.ensures ∙ ap (λ (d : Desk). forgets d c.args.pan.now c.args.sequence) c.desk_of-lent.ensures) ∙ c.in_ok-d.was)) c.table_out.ensures
