use Rattle.scripts.proofs.LeafLaws.{own_data, own_template}
use Rattle.scripts.proofs.own_length.Goals as goal

pub returns-then-is_data : goal.returns-then-is_data
returns-then-is_data c = own_data c.args.o c.is_data.result c.is_data.ensures c.args.n c.if-is_data.true

pub returns-else-is_data : goal.returns-else-is_data
returns-else-is_data c = own_template c.args.o c.is_data.result c.is_data.ensures c.args.n c.if-is_data.false
