use mathlib.Core.Path.{sym, ap}
use Rattle.templates.specs.Reading.{after}
use Rattle.templates.proofs.Holder.after.Goals as goal

pub returns-in-Outer : goal.returns-in-Outer
unfolding after
returns-in-Outer c = sym (ap after c.in-Outer.is)

pub returns-in-Fresh : goal.returns-in-Fresh
unfolding after
returns-in-Fresh c = sym (ap after c.in-Fresh.is)

pub returns-in-Begun : goal.returns-in-Begun
unfolding after
returns-in-Begun c = sym (ap after c.in-Begun.is)
