use mathlib.Core.Path.{sym, ap}
use Rattle.shapes.specs.Command.{length_for}
use Rattle.shapes.proofs.command.Command.length.Goals as goal

pub returns-in-SetPin : goal.returns-in-SetPin
unfolding length_for
returns-in-SetPin c = sym (ap length_for c.in-SetPin.is)

pub returns-in-SetMark : goal.returns-in-SetMark
unfolding length_for
returns-in-SetMark c = sym (ap length_for c.in-SetMark.is)

pub returns-in-ClearMark : goal.returns-in-ClearMark
unfolding length_for
returns-in-ClearMark c = sym (ap length_for c.in-ClearMark.is)
