use mathlib.Core.Path.{sym, ◌∙◌}
use Rattle.cryptogram.proofs.AnswerLaws as cryptograms
use Rattle.card.proofs.CallLaws.{arpc_made}
use borrow.Author.Rules.{rules}
use Rattle.card.proofs.arpc_for.Goals as goal

pub unwrap-requires : goal.unwrap-requires
unwrap-requires c = rw (c.arpc.ensures ∙ sym (cryptograms.arpc_made _ _ _ (search rules) (search rules) c.requires))

pub returns : goal.returns
returns c = λ e. search (arpc_made, rules)
