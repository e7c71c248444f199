use Rattle.std.proofs.Common.{sym, ◌∙◌}
use Rattle.rounds.proofs.KeyLaws.{block_first, block_other}
use Rattle.rounds.proofs.compress_block_over.Goals as goal

pub returns-then-is_first : goal.returns-then-is_first
returns-then-is_first c = c.compress_first.ensures ∙ block_first _ _ _ _ (sym c.is_first.ensures ∙ c.if-is_first.true)

pub returns : goal.returns
returns c = c.compress_over.ensures ∙ block_other _ _ _ _ (sym c.is_first.ensures ∙ c.if-is_first.false)
