use mathlib.Core.Path.{refl}
use Rattle.templates.specs.Reading.{begun, no_object}
use Rattle.templates.proofs.Read.begun.Goals as goal

pub returns : goal.returns
unfolding begun no_object
returns c = refl
