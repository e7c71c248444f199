use mathlib.Core.Path.{refl}
use Rattle.parts.proofs.LentLaws.{mac_answer}
use Rattle.parts.proofs.StartedUnderWay32.fed.Goals as goal

pub returns : goal.returns
returns c = mac_answer _ _ refl c.hmac_feed.ensures
