use mathlib.Core.Path.{ap, sym, ◌∙◌}
use Prim.Native.Nat.{ℕ}
use lib.Dec.{eqb}
use mathlib.Core.List.{List}
use Rattle.std.proofs.lemmas.Result.{err_from_is_err_and}
use Rattle.desk.specs.declared.Desk.{Desk}
use Rattle.desk.specs.Check.{checks}
use Rattle.stored.specs.Lent.{lent_desk, no_key}
use Rattle.stored.proofs.LentLaws.{short, whole, check_short, check_misfit, check_whole, lent_not, lent_so, checked_not, checked_so}
use mathlib.Core.Logic.{inl, inr}
use Rattle.stored.proofs.check.Goals.{then-table-ne-TABLE-via-then-table-ne-TABLE, then-table-ne-TABLE-via-else-table-ne-TABLE+then-digits-gt1, then-table-ne-TABLE-via-else-table-ne-TABLE+else-digits-gt1+then-out-ne8}
use Rattle.stored.proofs.check.Goals as goal

pub returns-in_err-ac : goal.returns-in_err-ac
returns-in_err-ac c =
    let p = err_from_is_err_and c.from_residual.result c.from_residual.ensures.1 in
    let s = short 32 c.args.issuer.now _ _ c.exactly.ensures c.in_err-ac.was in
    rw (p.1, p.2, s.1) (checked_not _ _ _ _ (lent_not _ _ (check_short _ _ _ _ s.0)))

pub returns-then-table-ne-TABLE : goal.returns-then-table-ne-TABLE
returns-then-table-ne-TABLE c =
    checked_not _ _ _ _ (lent_not _ _ (check_misfit _ _ _ _
    (elim c.then-table-ne-TABLE.branch [
      | then-table-ne-TABLE-via-then-table-ne-TABLE w ↦ inl w.if-table-ne-TABLE.true
      | then-table-ne-TABLE-via-else-table-ne-TABLE+then-digits-gt1 w ↦ inr (inl w.if-digits-gt1.true)
      | then-table-ne-TABLE-via-else-table-ne-TABLE+else-digits-gt1+then-out-ne8 w ↦ inr (inr w.if-out-ne8.true)
    ])))

pub returns-in_err-x : goal.returns-in_err-x
returns-in_err-x c =
    let p = err_from_is_err_and c.from_residual-in_err-x.result c.from_residual-in_err-x.ensures.1 in
    let s = whole 32 c.args.issuer.now _ _ c.exactly.ensures c.in_ok-ac.was in
    rw (p.1, p.2) (checked_not _ _ _ _ (lent_so _ _ _ (check_whole _ _ _ _ c.if-table-ne-TABLE.false s.0 c.if-digits-gt1.false c.if-out-ne8.false)
    (sym (c.check.ensures
    ∙ ap (λ (d : Desk). checks d c.args.pan.now c.args.sequence c.args.data.now c.args.arqc.now c.args.csu.now)
    (c.desk_of-lent.ensures ∙ ap (λ (k : List ℕ). lent_desk k no_key no_key (eqb c.args.digits 1) c.args.table.now) s.1)) ∙ c.in_err-x.was)))

pub returns : goal.returns
returns c =
    let s = whole 32 c.args.issuer.now _ _ c.exactly.ensures c.in_ok-ac.was in
    checked_so _ _ _ _ _ _ (lent_so _ _ _ (check_whole _ _ _ _ c.if-table-ne-TABLE.false s.0 c.if-digits-gt1.false c.if-out-ne8.false)
    (sym (c.check.ensures
    ∙ ap (λ (d : Desk). checks d c.args.pan.now c.args.sequence c.args.data.now c.args.arqc.now c.args.csu.now)
    (c.desk_of-lent.ensures ∙ ap (λ (k : List ℕ). lent_desk k no_key no_key (eqb c.args.digits 1) c.args.table.now) s.1)) ∙ c.in_ok-x.was))
    c.table_out.ensures c.copy_from_slice.ensures.after
