-- Lent bytes ended, way out by way out. Assumes nothing.
use mathlib.Core.Path.{sym, ap, ◌∙◌}
use mathlib.Core.Logic.{inl, inr}
use native.Mathlib.Omega.{arith}
use Rattle.parts.proofs.LentLaws.{ended_lent, ended_not, ended_done}
use Rattle.parts.proofs.end.Goals.{then-state-size-via-then-state-size, then-state-size-via-else-state-size+then-out}
use Rattle.parts.proofs.end.Goals as goal

pub returns-then-state-size : goal.returns-then-state-size
returns-then-state-size g c = let f = g.S.UnderWay.form in
    let a = c.args in
    ended_lent f g.row.N a.state.now a.out.now (g.S.UnderWay.ended (f.into a.state.now))
    (elim c.then-state-size.branch [
      | then-state-size-via-then-state-size w ↦ inl (λ e. w.if-state-size.true (e ∙ sym c.size.ensures))
      | then-state-size-via-else-state-size+then-out w ↦ inr (w.if-state-size.false ∙ c.size.ensures, λ e. omega (arith, e))
    ])

pub returns-in_err-end : goal.returns-in_err-end
returns-in_err-end g c = let a = c.args in
    let f = g.S.UnderWay.form in
    ended_not f _ _ (g.S.UnderWay.ended (f.into a.state.now)) _ a.state.now a.out.now (c.if-state-size.false ∙ c.size.ensures) c.if-out.false
    (c.end.ensures ∙ ap g.S.UnderWay.ended c.read.ensures) c.in_err-end.was c.from_residual.ensures.1

pub returns : goal.returns
returns g c = let a = c.args in
    let f = g.S.UnderWay.form in
    ended_done f _ (g.S.UnderWay.ended (f.into a.state.now)) _ a.state.now a.out.now (c.if-state-size.false ∙ c.size.ensures) c.if-out.false
    (c.end.ensures ∙ ap g.S.UnderWay.ended c.read.ensures) c.in_ok-end.was c.copy_from_slice.ensures.after
