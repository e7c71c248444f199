use Rattle.exports.proofs.GiveLaws.{given_as}
use Rattle.exports.proofs.box_card_key.Goals as goal

pub returns : goal.returns
returns c = given_as 32 c.card_key.ensures c.give.ensures
