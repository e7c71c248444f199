use native.Mathlib.Omega.{arith}
use Rattle.scripts.proofs.LeafLaws.{own_small, added}
use Rattle.scripts.proofs.added_by.Goals as goal

pub overflow_add-result : goal.overflow_add-result
overflow_add-result c = let h = own_small c.args.o c.own_length.result c.requires c.own_length.ensures in
    omega (arith, c.head_size.ensures.small)

pub returns : goal.returns
returns c = search added
