use mathlib.Core.Path.{ap, ◌∙◌}
use Rattle.hash.specs.declared.State.{State}
use Rattle.hash.specs.States.{poured_into, ended}
use Rattle.hash.proofs.Laws.{ended_poured}
use Rattle.hash.proofs.hash.Goals as goal

pub returns : goal.returns
returns c = let m = c.args.m.now in
    c.end.ensures ∙ ap ended (c.pour.ensures ∙ ap (λ (s : State). poured_into s m) c.begin.ensures) ∙ ended_poured m
