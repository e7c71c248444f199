use Rattle.card.proofs.CallLaws.{unsound, script_idle, script_on}
use Rattle.card.proofs.Card.script_kept.Goals as goal

pub returns-then-not-is_sound : goal.returns-then-not-is_sound
returns-then-not-is_sound c = search unsound

pub returns-then-not-is_open : goal.returns-then-not-is_open
returns-then-not-is_open c = search script_idle

pub returns : goal.returns
returns c = λ smi smc. let e = c.judge.ensures smi smc in search script_on
