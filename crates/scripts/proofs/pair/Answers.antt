use native.Mathlib.Omega.{arith}
use Rattle.scripts.proofs.FromLaws.{pair_is}
use Rattle.scripts.proofs.pair.Goals as goal

pub returns : goal.returns
returns c = let x = c.args in
    pair_is x.b.now x.at c.high_low.result c.requires (omega arith) (omega arith) c.high_low.ensures
