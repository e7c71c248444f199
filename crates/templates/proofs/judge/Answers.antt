use borrow.Author.Rules.{rules}
use Rattle.templates.proofs.LeafLaws.{judged_bad, judged_deep, judged_many, judged_none}
use Rattle.templates.proofs.judge.Goals as goal

pub returns-then-not-fits : goal.returns-then-not-fits
returns-then-not-fits c = search (judged_bad, rules)

pub returns-then-level-gt-DEEPEST : goal.returns-then-level-gt-DEEPEST
returns-then-level-gt-DEEPEST c = search (judged_deep, rules)

pub returns-then-c-ge-MOST : goal.returns-then-c-ge-MOST
returns-then-c-ge-MOST c = search (judged_many, rules)

pub returns : goal.returns
returns c = search (judged_none, rules)
