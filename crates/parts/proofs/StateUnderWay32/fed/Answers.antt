use mathlib.Core.Path.{refl}
use Rattle.parts.proofs.LentLaws.{hash_answer}
use Rattle.parts.proofs.StateUnderWay32.fed.Goals as goal

pub returns : goal.returns
returns c = hash_answer _ _ refl c.feed.ensures
