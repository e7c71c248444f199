use mathlib.Core.Path.{◌∙◌}
use Rattle.pin.proofs.AnswerLaws.{decipher_no, decipher_yes}
use Rattle.pin.proofs.decipher_pin.Goals as goal

pub returns-in_err-decipher : goal.returns-in_err-decipher
returns-in_err-decipher c = decipher_no _ _ c.decipher.ensures _ c.in_err-decipher.was _ c.from_residual.ensures.1

pub returns : goal.returns
returns c = c.read_block.ensures ∙ decipher_yes _ _ c.decipher.ensures _ c.in_ok-decipher.was
