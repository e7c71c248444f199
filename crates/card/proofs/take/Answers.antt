use Rattle.card.proofs.CallLaws.{taken_pin, taken_set, taken_clear}
use Rattle.card.proofs.take.Goals as goal

pub returns-in-SetPin : goal.returns-in-SetPin
returns-in-SetPin c = λ fits. let e = c.take_pin.ensures fits in search taken_pin

pub returns-in-SetMark : goal.returns-in-SetMark
returns-in-SetMark c = search taken_set

pub returns-in-ClearMark : goal.returns-in-ClearMark
returns-in-ClearMark c = search taken_clear
