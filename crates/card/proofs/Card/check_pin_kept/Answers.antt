use Rattle.card.proofs.CallLaws.{unsound, check_idle, check_input, check_none, check_full, check_on}
use Rattle.card.proofs.Card.check_pin_kept.Goals as goal

pub returns-then-not-is_sound : goal.returns-then-not-is_sound
returns-then-not-is_sound c = search unsound

pub returns-then-not-is_open : goal.returns-then-not-is_open
returns-then-not-is_open c = search check_idle

pub returns-then-block-ne8 : goal.returns-then-block-ne8
returns-then-block-ne8 c = search check_input

pub returns-then-self-eq0 : goal.returns-then-self-eq0
returns-then-self-eq0 c = search check_none

pub returns-then-self-eq65535 : goal.returns-then-self-eq65535
returns-then-self-eq65535 c = search check_full

pub returns : goal.returns
returns c = λ smc. let e = c.compare.ensures smc in search check_on
