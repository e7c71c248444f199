use mathlib.Core.Path.{sym, ap}
use Rattle.shapes.specs.Command.{tag_for}
use Rattle.shapes.proofs.command.Command.tag.Goals as goal

pub returns-in-SetPin : goal.returns-in-SetPin
unfolding tag_for
returns-in-SetPin c = sym (ap tag_for c.in-SetPin.is)

pub returns-in-SetMark : goal.returns-in-SetMark
unfolding tag_for
returns-in-SetMark c = sym (ap tag_for c.in-SetMark.is)

pub returns-in-ClearMark : goal.returns-in-ClearMark
unfolding tag_for
returns-in-ClearMark c = sym (ap tag_for c.in-ClearMark.is)
