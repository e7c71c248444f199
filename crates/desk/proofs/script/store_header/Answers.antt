use mathlib.Core.Path.{◌∙◌}
use Rattle.shapes.proofs.CommandLaws.{header_four}
use Rattle.desk.proofs.ScriptLaws.{header_laid}
use Rattle.desk.proofs.script.store_header.Goals as goal

pub returns : goal.returns
returns c = header_laid _ _ _ _ (c.copy_from_slice.ensures.after ∙ c.header.ensures) (header_four c.args.c)
