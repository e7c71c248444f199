use Rattle.exports.proofs.GiveLaws.{given_as}
use Rattle.exports.proofs.box_script_key.Goals as goal

pub returns : goal.returns
returns c = given_as 32 c.script_key.ensures c.give.ensures
