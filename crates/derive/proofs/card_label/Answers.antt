use mathlib.Core.Path.{refl}
use Rattle.derive.specs.Derivation.{card_label}
use Rattle.derive.proofs.card_label.Goals as goal

pub returns : goal.returns
unfolding card_label
returns c = refl
