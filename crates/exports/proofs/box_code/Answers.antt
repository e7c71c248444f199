use Rattle.exports.proofs.GiveLaws.{given_as}
use Rattle.exports.proofs.box_code.Goals as goal

pub returns : goal.returns
returns c = given_as 4 c.code.ensures c.give.ensures
