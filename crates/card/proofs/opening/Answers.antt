use mathlib.Core.Path.{sym, ◌∙◌}
use Rattle.cryptogram.proofs.AnswerLaws as cryptograms
use Rattle.card.proofs.CallLaws.{opened_by}
use borrow.Author.Rules.{rules}
use Rattle.card.proofs.opening.Goals as goal

pub unwrap-bytes-requires : goal.unwrap-bytes-requires
unwrap-bytes-requires c = rw (c.cryptogram.ensures ∙ sym (cryptograms.made _ _ _ _ (search rules) c.requires.1.1))

pub returns : goal.returns
returns c = λ fits. let e = c.session_key-key.ensures fits in search (opened_by, rules)
