use Rattle.exports.proofs.GiveLaws.{given_as}
use Rattle.exports.proofs.box_write_pin.Goals as goal

pub returns : goal.returns
returns c = given_as 8 c.write_pin.ensures c.give.ensures
