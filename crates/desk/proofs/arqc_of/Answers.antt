use borrow.Author.Rules.{rules}
use Rattle.desk.proofs.DeskLaws.{is_given, arqc_given, arqc_made}
use Rattle.desk.proofs.arqc_of.Goals as goal

pub unwrap-requires : goal.unwrap-requires
unwrap-requires c = is_given _ _ (arqc_given _ _ _ _ (search rules) c.requires c.cryptogram.ensures)

pub returns : goal.returns
returns c = arqc_made _ _ _ _ (search rules) c.requires c.cryptogram.ensures _ c.unwrap.ensures
