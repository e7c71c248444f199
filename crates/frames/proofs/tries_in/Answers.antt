use Rattle.frames.proofs.FrameLaws.{tries_given, tries_full}
use Rattle.frames.proofs.tries_in.Goals as goal

pub returns-then-rest-eq116 : goal.returns-then-rest-eq116
returns-then-rest-eq116 c = search tries_given

pub returns-else-rest-eq116 : goal.returns-else-rest-eq116
returns-else-rest-eq116 c = search tries_full
