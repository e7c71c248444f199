use mathlib.Core.Path.{ap, ◌∙◌}
use Rattle.cipher.proofs.AnswerLaws.{exact, not_exact}
use Rattle.pin.specs.Answers.{read_block}
use Rattle.pin.proofs.AnswerLaws.{read_no_block, read_block_lem}
use Rattle.pin.proofs.read_pin.Goals as goal

pub returns-in_err-exactly : goal.returns-in_err-exactly
returns-in_err-exactly c = let h = not_exact 8 _ _ c.exactly.ensures c.in_err-exactly.was _ c.from_residual.ensures.1 in h.1 ∙ read_no_block _ h.0

pub returns : goal.returns
returns c =
    let b = exact 8 _ _ c.exactly.ensures c.in_ok-exactly.was in
    c.read_block.ensures ∙ ap read_block b.1 ∙ read_block_lem c.args.block.now b.0
