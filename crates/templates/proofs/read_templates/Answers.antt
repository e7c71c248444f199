use borrow.Author.Rules.{rules}
use Rattle.templates.proofs.ReadLaws.{reading_none, reading_some}
use Rattle.templates.proofs.read_templates.Goals as goal

pub returns-then-xs-eq0 : goal.returns-then-xs-eq0
returns-then-xs-eq0 c = search (reading_none, rules)

pub returns : goal.returns
returns c = search (reading_some, rules)
