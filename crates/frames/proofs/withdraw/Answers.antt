use Rattle.frames.proofs.FrameLaws.{bare_not, bare_so}
use Rattle.frames.proofs.withdraw.Goals as goal

pub returns-then-not-is_empty : goal.returns-then-not-is_empty
returns-then-not-is_empty c = search bare_not

pub returns : goal.returns
returns c = search bare_so
