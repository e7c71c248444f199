use Rattle.card.proofs.MasterLaws.{none_fit}
use Rattle.trace.proofs.feed.Goals as goal

pub feed_kept-requires : goal.feed_kept-requires
feed_kept-requires c = none_fit _
