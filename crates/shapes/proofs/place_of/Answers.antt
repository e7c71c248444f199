use native.Mathlib.Omega.{arith}
use mathlib.Core.Path.{sym}
use Rattle.shapes.specs.Length.{largest_short}
use Rattle.shapes.proofs.LengthLaws.{place_short, place_long}
use Rattle.shapes.proofs.place_of.Goals as goal

pub returns-then-n-le-LARGEST_SHORT : goal.returns-then-n-le-LARGEST_SHORT
unfolding largest_short
returns-then-n-le-LARGEST_SHORT c = sym (place_short _ (omega arith))

pub returns-else-n-le-LARGEST_SHORT : goal.returns-else-n-le-LARGEST_SHORT
unfolding largest_short
returns-else-n-le-LARGEST_SHORT c = sym (place_long _ (omega arith))
