use borrow.Author.Rules.{rules}
use Rattle.cryptogram.proofs.DataLaws.{arpc_laid}
use Rattle.cryptogram.proofs.arpc_string.Goals as goal

pub returns : goal.returns
returns c = arpc_laid c.args.cryptogram c.args.csu _ _ c.copy_from_slice.ensures.after c.copy_from_slice-2.ensures.after (search rules) (search rules)
