use Rattle.derive.proofs.MacLaws.{fed_inner, fed_refused}
use Rattle.derive.proofs.hmac_feed.Goals as goal

pub returns-in_err-feed : goal.returns-in_err-feed
returns-in_err-feed c = fed_refused _ _ _ c.feed.ensures c.in_err-feed.was _ c.from_residual.ensures.1

pub returns : goal.returns
returns c = fed_inner _ _ _ c.feed.ensures c.in_ok-feed.was
