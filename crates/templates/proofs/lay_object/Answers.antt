use borrow.Author.Rules.{rules}
use Rattle.templates.proofs.LentLaws.{object_laid}
use Rattle.templates.proofs.lay_object.Goals as goal

pub returns : goal.returns
returns c = search (object_laid, rules)
