use mathlib.Core.Path.{◌∙◌}
use Rattle.lps.proofs.Bytes.{bytes_low_first_lem}
use Rattle.lps.proofs.bytes_of.Goals as goal

pub returns : goal.returns
returns c = c.to_le_bytes.ensures ∙ bytes_low_first_lem 8 c.args.w
