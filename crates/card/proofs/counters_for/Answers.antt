use mathlib.Core.Path.{sym, ◌∙◌}
use Rattle.keys.proofs.AnswerLaws.{counter_yes}
use Rattle.card.proofs.CallLaws.{counters_made}
use borrow.Author.Rules.{rules}
use Rattle.card.proofs.counters_for.Goals as goal

pub unwrap-key-requires : goal.unwrap-key-requires
unwrap-key-requires c = rw (c.counter_key.ensures ∙ sym (counter_yes _ (search rules)))

pub returns : goal.returns
returns c = λ fits. let e = c.session_key-session.ensures fits in search counters_made
