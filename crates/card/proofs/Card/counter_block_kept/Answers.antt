use Rattle.card.proofs.CallLaws.{unsound, counters_idle, counters_done}
use mathlib.Core.Bool.{not}
use mathlib.Core.Path.{ap}
use Rattle.card.proofs.Card.counter_block_kept.Goals as goal

pub returns-then-not-is_sound : goal.returns-then-not-is_sound
returns-then-not-is_sound c = search unsound

pub returns-then-not-is_open : goal.returns-then-not-is_open
returns-then-not-is_open c = search counters_idle

pub returns : goal.returns
returns c = λ fits. counters_done _ _ _ _ c.is_sound.ensures (ap not c.if-not-is_sound.false) c.is_open.ensures (ap not c.if-not-is_open.false) (c.counters_for-bytes.ensures fits)
