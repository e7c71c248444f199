use mathlib.Core.Path.{refl}
use Rattle.octets.specs.Numbers.{le}
use Rattle.lps.specs.Vectors.{words}
use Rattle.rounds.specs.Sums.{vec, lowest}
use Rattle.hash.specs.Hash.{start}
use Rattle.blocks.specs.Parts.{filled}
use Rattle.hash.specs.States.{begun, state_of}
use Rattle.hash.proofs.begin.Goals as goal

pub returns : goal.returns
unfolding begun state_of filled start words le vec lowest
returns c = refl
