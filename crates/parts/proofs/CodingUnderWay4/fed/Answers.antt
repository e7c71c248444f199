use mathlib.Core.Path.{refl}
use Rattle.parts.proofs.LentLaws.{code_answer}
use Rattle.parts.proofs.CodingUnderWay4.fed.Goals as goal

pub returns : goal.returns
returns c = code_answer _ _ refl c.code_feed.ensures
