use Rattle.frames.proofs.FrameLaws.{fresh_made}
use Rattle.frames.proofs.fresh.Goals as goal

pub returns : goal.returns
returns c = search fresh_made
