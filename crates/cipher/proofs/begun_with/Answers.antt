use mathlib.Core.Path.{refl}
use Rattle.blocks.specs.Parts.{filled}
use Rattle.cipher.specs.Code.{start}
use Rattle.cipher.specs.Coding.{coding_of, coding_begun}
use Rattle.cipher.proofs.begun_with.Goals as goal

pub returns : goal.returns
unfolding coding_begun coding_of filled start
returns c = refl
