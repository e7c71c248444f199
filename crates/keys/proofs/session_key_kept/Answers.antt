use mathlib.Core.Path.{ap₂, ◌∙◌}
use Rattle.derive.specs.Answers.{derivation_kept}
use Rattle.keys.specs.Answers.{session_key_kept}
use Rattle.keys.proofs.session_key_kept.Goals as goal

pub returns : goal.returns
unfolding session_key_kept
returns c = let ws = c.args.kept.now in
    c.derive_kept.ensures ∙ ap₂ (derivation_kept ws) c.card_label.ensures c.session_seed.ensures
