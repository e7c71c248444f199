use borrow.Author.Rules.{rules}
use Rattle.frames.specs.Frames.{part}
use Rattle.frames.proofs.part.Goals as goal

pub returns : goal.returns
unfolding part
returns c = search rules
