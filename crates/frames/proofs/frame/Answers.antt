use Rattle.frames.proofs.FrameLaws.{framed_new, framed_none, framed_one}
use Rattle.frames.proofs.frame.Goals as goal

pub returns-then-tag-eq0 : goal.returns-then-tag-eq0
returns-then-tag-eq0 c = search framed_new

pub returns-then-not-held : goal.returns-then-not-held
returns-then-not-held c = search framed_none

pub returns : goal.returns
returns c = λ fits. let e = c.call.ensures fits in search framed_one
