use Rattle.keys.specs.CardNumber.{packed_y}
use Rattle.keys.specs.Answers.{card_key_packed}
use Rattle.keys.proofs.card_key_packed.Goals as goal

pub returns : goal.returns
unfolding card_key_packed packed_y
returns c = c.card_key_by.ensures
