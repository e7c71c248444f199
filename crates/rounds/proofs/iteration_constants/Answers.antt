use Rattle.std.proofs.Common.{refl}
use Rattle.rounds.specs.Constants.{C}
use Rattle.rounds.specs.Sums.{vec, lowest}
use Rattle.rounds.specs.Rounds.{constants}
use Rattle.rounds.proofs.iteration_constants.Goals as goal

pub returns : goal.returns
unfolding constants C vec lowest
returns c = refl
