use mathlib.Core.Path.{sym, ◌∙◌}
use Rattle.derive.proofs.Laws.{key_of_none, key_of_fits}
use Rattle.derive.proofs.key_of.Goals as goal

pub returns-then-key-eq32 : goal.returns-then-key-eq32
returns-then-key-eq32 c = c.copy_from_slice.ensures.after ∙ sym (key_of_fits c.args.key.now c.if-key-eq32.true)

pub returns-else-key-eq32 : goal.returns-else-key-eq32
returns-else-key-eq32 c = key_of_none _ c.if-key-eq32.false
