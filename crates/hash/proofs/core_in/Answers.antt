use Rattle.hash.specs.Ahead.{core_in}
use Rattle.hash.proofs.core_in.Goals as goal

pub returns : goal.returns
unfolding core_in
returns c = λ k. record { h = c.vector.ensures k; n = c.vector-2.ensures k; sigma = c.vector-3.ensures k }
