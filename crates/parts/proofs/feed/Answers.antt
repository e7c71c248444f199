-- A part fed to lent bytes, way out by way out. Assumes nothing.
use mathlib.Core.Path.{ap, ◌∙◌}
use native.Mathlib.Omega.{arith}
use Rattle.parts.specs.Lent.{part_answer}
use Rattle.parts.proofs.LentLaws.{fed_length, fed_not, fed_done}
use Rattle.parts.proofs.feed.Goals as goal

pub returns-then-state-size : goal.returns-then-state-size
returns-then-state-size g c = fed_length g.S.UnderWay.form g.S.UnderWay.way c.args.state.now c.args.part.now (λ e. omega arith)

pub returns-in_err-fed : goal.returns-in_err-fed
returns-in_err-fed g c = let a = c.args in
    let w = g.S.UnderWay.way in
    fed_not g.S.UnderWay.form w _ _ a.state.now a.part.now (c.if-state-size.false ∙ c.size.ensures)
    (c.fed.ensures ∙ ap (λ x. part_answer w x a.part.now) c.read.ensures) c.in_err-fed.was c.from_residual.ensures.1

pub returns : goal.returns
returns g c = let a = c.args in
    let w = g.S.UnderWay.way in
    fed_done g.S.UnderWay.form w _ a.state.now a.part.now (c.if-state-size.false ∙ c.size.ensures)
    (c.fed.ensures ∙ ap (λ x. part_answer w x a.part.now) c.read.ensures) c.in_ok-fed.was c.write.ensures
