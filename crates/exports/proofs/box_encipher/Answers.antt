use Rattle.exports.proofs.GiveLaws.{given_as}
use Rattle.exports.proofs.box_encipher.Goals as goal

pub returns : goal.returns
returns c = given_as 8 c.encipher.ensures c.give.ensures
