use Rattle.frames.proofs.FrameLaws.{bare_not, bare_so}
use Rattle.frames.proofs.counter_block.Goals as goal

pub returns-then-not-is_empty : goal.returns-then-not-is_empty
returns-then-not-is_empty c = search bare_not

pub returns : goal.returns
returns c = λ fits. let e = c.counter_block_kept.ensures fits in search bare_so
