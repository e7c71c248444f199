use mathlib.Core.Path.{refl}
use Rattle.templates.specs.Reading.{kept}
use Rattle.templates.proofs.Read.kept.Goals as goal

pub returns : goal.returns
unfolding kept
returns c = refl
