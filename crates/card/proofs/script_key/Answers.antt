use mathlib.Core.Path.{◌∙◌}
use Rattle.card.proofs.CallLaws.{key_script, key_script_kept, script_answers}
use Rattle.keys.proofs.AnswerLaws.{script_is}
use borrow.Author.Rules.{rules}
use Rattle.card.proofs.script_key.Goals as goal

pub unwrap-requires : goal.unwrap-requires
unwrap-requires c = rw (c.script_key_kept.ensures ∙ script_answers _ c.if-words-eq-KEPT_WORDS.true _ (search rules))

pub returns-then-words-eq-KEPT_WORDS : goal.returns-then-words-eq-KEPT_WORDS
returns-then-words-eq-KEPT_WORDS c = search (key_script_kept, rules)

pub unwrap-requires-2 : goal.unwrap-requires-2
unwrap-requires-2 c = rw (c.script_key.ensures ∙ script_is _ (search rules) _ (search rules))

pub returns : goal.returns
returns c = search (key_script, rules)
