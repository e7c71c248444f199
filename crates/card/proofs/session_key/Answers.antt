use mathlib.Core.Path.{◌∙◌}
use Rattle.card.proofs.CallLaws.{key_session, key_session_kept, session_answers}
use Rattle.keys.proofs.AnswerLaws.{session_is}
use borrow.Author.Rules.{rules}
use Rattle.card.proofs.session_key.Goals as goal

pub unwrap-requires : goal.unwrap-requires
unwrap-requires c = rw (c.session_key_kept.ensures ∙ session_answers _ c.if-ac-eq-KEPT_WORDS.true _)

pub returns-then-ac-eq-KEPT_WORDS : goal.returns-then-ac-eq-KEPT_WORDS
returns-then-ac-eq-KEPT_WORDS c = search (key_session_kept, rules)

pub unwrap-requires-2 : goal.unwrap-requires-2
unwrap-requires-2 c = rw (c.session_key.ensures ∙ session_is _ (search rules) _)

pub returns : goal.returns
returns c = search (key_session, rules)
