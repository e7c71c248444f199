use Rattle.stored.proofs.FormLaws.{entry_made}
use borrow.Author.Rules.{rules}
use Rattle.stored.proofs.entry_out.Goals as goal

pub returns : goal.returns
returns c = entry_made _ _ _ _ c.copy_from_slice.ensures.after (search rules) c.copy_from_slice-2.ensures.after c.high_first.ensures
