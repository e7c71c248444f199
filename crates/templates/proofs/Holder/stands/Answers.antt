use borrow.Author.Rules.{rules}
use Rattle.templates.proofs.LeafLaws.{stands_outer, stands_fresh, stands_begun}
use Rattle.templates.proofs.Holder.stands.Goals as goal

pub returns-in-Outer : goal.returns-in-Outer
returns-in-Outer c = search (stands_outer, rules)

pub returns-in-Fresh : goal.returns-in-Fresh
returns-in-Fresh c = search (stands_fresh, rules)

pub returns-in-Begun : goal.returns-in-Begun
returns-in-Begun c = search (stands_begun, rules)
