use mathlib.Core.Path.{sym, ap}
use Rattle.shapes.specs.Command.{header_of}
use Rattle.shapes.proofs.command.Command.header.Goals as goal

pub returns-in-SetPin : goal.returns-in-SetPin
unfolding header_of
returns-in-SetPin c = sym (ap header_of c.in-SetPin.is)

pub returns-in-SetMark : goal.returns-in-SetMark
unfolding header_of
returns-in-SetMark c = sym (ap header_of c.in-SetMark.is)

pub returns-in-ClearMark : goal.returns-in-ClearMark
unfolding header_of
returns-in-ClearMark c = sym (ap header_of c.in-ClearMark.is)
