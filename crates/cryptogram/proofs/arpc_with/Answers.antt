use mathlib.Core.Path.{ap, ◌∙◌}
use Rattle.cryptogram.specs.Cryptogram.{double_code, arpc_of}
use Rattle.cryptogram.proofs.arpc_with.Goals as goal

pub returns : goal.returns
unfolding arpc_of
returns c = c.double_code.ensures ∙ ap (double_code _) c.arpc_string.ensures
