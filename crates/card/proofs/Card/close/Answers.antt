use Rattle.card.proofs.CallLaws.{unsound, close_idle, close_spoilt, close_done}
use Rattle.card.proofs.Card.close.Goals as goal

pub returns-then-not-is_sound : goal.returns-then-not-is_sound
returns-then-not-is_sound c = search unsound

pub returns-then-not-is_open : goal.returns-then-not-is_open
returns-then-not-is_open c = search close_idle

pub returns-then-self : goal.returns-then-self
returns-then-self c = search close_spoilt

pub returns : goal.returns
returns c = search close_done
