use Rattle.keys.specs.CardNumber.{Y}
use Rattle.keys.specs.Answers.{card_key}
use Rattle.keys.proofs.card_key.Goals as goal

pub returns : goal.returns
unfolding card_key Y
returns c = c.card_key_by.ensures
