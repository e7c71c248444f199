use mathlib.Core.Path.{ap, ◌∙◌}
use Rattle.cryptogram.specs.Cryptogram.{double_code, cryptogram_of}
use Rattle.cryptogram.proofs.cryptogram_with.Goals as goal

pub returns : goal.returns
unfolding cryptogram_of
returns c = c.double_code.ensures ∙ ap (double_code _) c.string_of.ensures
