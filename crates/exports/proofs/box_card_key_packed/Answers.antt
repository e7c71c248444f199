use Rattle.exports.proofs.GiveLaws.{given_as}
use Rattle.exports.proofs.box_card_key_packed.Goals as goal

pub returns : goal.returns
returns c = given_as 32 c.card_key_packed.ensures c.give.ensures
