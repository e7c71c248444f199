use mathlib.Core.Path.{refl}
use Rattle.templates.specs.Reading.{stopped}
use Rattle.templates.proofs.Read.stopped.Goals as goal

pub returns : goal.returns
unfolding stopped
returns c = refl
