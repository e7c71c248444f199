use mathlib.Core.Path.{ap, ◌∙◌}
use Rattle.derive.specs.Answers.{card_derivation}
use Rattle.keys.specs.Answers.{session_key}
use Rattle.keys.proofs.session_key.Goals as goal

pub returns : goal.returns
unfolding session_key
returns c = let x = c.args in
    c.derive.ensures ∙ ap (card_derivation x.master.now) c.session_seed.ensures
