use Rattle.desk.proofs.DeskLaws.{known_wrong, known_right}
use borrow.Author.Rules.{rules}
use Rattle.desk.proofs.check_known.Goals as goal

pub returns-then-not-same : goal.returns-then-not-same
returns-then-not-same c = search (known_wrong, rules)

pub returns : goal.returns
returns c = search (known_right, rules)
