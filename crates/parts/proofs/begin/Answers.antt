-- A state begun over lent bytes, way out by way out. Assumes nothing.
use mathlib.Core.Path.{refl, ◌∙◌}
use native.Mathlib.Omega.{arith}
use Rattle.parts.proofs.LentLaws.{begun_length, begun_key, begun_done}
use Rattle.parts.proofs.begin.Goals as goal

pub returns-then-state-size : goal.returns-then-state-size
returns-then-state-size g c = begun_length g.S.UnderWay.form c.args.begun c.args.state.now (λ e. omega arith)

pub returns-in_err-begun : goal.returns-in_err-begun
returns-in_err-begun g c =
    begun_key g.S.UnderWay.form _ c.args.begun _ c.args.state.now (c.if-state-size.false ∙ c.size.ensures) refl c.in_err-begun.was c.from_residual.ensures.1

pub returns : goal.returns
returns g c = begun_done g.S.UnderWay.form c.args.begun _ c.args.state.now (c.if-state-size.false ∙ c.size.ensures) refl c.in_ok-begun.was c.write.ensures
