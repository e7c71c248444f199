use Rattle.trace.proofs.FeedLaws.{completed_made}
use Rattle.trace.proofs.complete.Goals as goal

pub returns : goal.returns
returns c = let e = c.answer_kept-s.ensures c.requires in search completed_made
