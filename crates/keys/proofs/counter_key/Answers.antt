use mathlib.Core.Path.{ap, ◌∙◌}
use Rattle.std.specs.Prelude.{Ok}
use Rattle.keys.proofs.AnswerLaws.{counter_no_key, counter_yes}
use Rattle.keys.proofs.counter_key.Goals as goal

pub returns-then-session-ne32 : goal.returns-then-session-ne32
returns-then-session-ne32 c = counter_no_key _ c.if-session-ne32.true

pub returns : goal.returns
returns c = ap Ok c.hash.ensures ∙ counter_yes _ c.if-session-ne32.false
