use Rattle.exports.proofs.GiveLaws.{given_as}
use Rattle.exports.proofs.box_derive.Goals as goal

pub returns : goal.returns
returns c = given_as 32 c.derive.ensures c.give.ensures
