use Rattle.exports.proofs.GiveLaws.{given_as}
use Rattle.exports.proofs.box_decipher.Goals as goal

pub returns : goal.returns
returns c = given_as 8 c.decipher.ensures c.give.ensures
