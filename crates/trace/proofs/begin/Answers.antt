use Rattle.lines.specs.Lines.{kept_signs}
use mathlib.Core.Path.{ap}
use Rattle.lines.specs.declared.Held.{Held}
use lib.ListN.{replicate}
use Rattle.trace.proofs.begin.Goals as goal

pub returns : goal.returns
returns c = ap (λ (h : Held). record { held = h; line = replicate kept_signs 0; count = 0 }) c.none.ensures
