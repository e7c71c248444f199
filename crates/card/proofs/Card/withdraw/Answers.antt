use Rattle.card.proofs.CallLaws.{unsound, withdraw_done}
use Rattle.card.proofs.Card.withdraw.Goals as goal

pub returns-then-not-is_sound : goal.returns-then-not-is_sound
returns-then-not-is_sound c = search unsound

pub returns : goal.returns
returns c = search withdraw_done
