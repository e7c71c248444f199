use mathlib.Core.Path.{◌∙◌}
use Rattle.trace.proofs.KeptLaws.{kept_none, kept_all}
use Rattle.trace.proofs.keep.Goals as goal

pub returns-then-have-ne0 : goal.returns-then-have-ne0
returns-then-have-ne0 c = c.requires

pub returns-then-not-used : goal.returns-then-not-used
returns-then-not-used c = kept_none _ _ c.requires.size

pub returns : goal.returns
returns c = kept_all _ _ (c.copy_from_slice.ensures.after ∙ c.keep.ensures)
