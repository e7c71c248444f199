use borrow.Author.Rules.{rules}
use Rattle.desk.proofs.ScriptLaws.{order_pin, order_block, order_unblock, order_none}
use Rattle.desk.proofs.script.ordered.Goals as goal

pub returns-in-36 : goal.returns-in-36
returns-in-36 c = search (order_pin, rules)

pub returns-in-30 : goal.returns-in-30
returns-in-30 c = search (order_block, rules)

pub returns-in-24 : goal.returns-in-24
returns-in-24 c = search (order_unblock, rules)

pub returns-in_default : goal.returns-in_default
returns-in_default c = search (order_none, rules)
