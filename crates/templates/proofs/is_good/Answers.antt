use Rattle.std.proofs.Common.{arith}
use Rattle.std.proofs.lemmas.Grind.{common_steps}
use Rattle.std.proofs.lemmas.Bool.Decides.{nat_tests}
use Rattle.shapes.specs.Length.{largest}
use Rattle.templates.specs.Reading.{good}
use Rattle.templates.proofs.is_good.Goals as goal

pub returns-then-head-n : goal.returns-then-head-n
unfolding good largest
returns-then-head-n c = grind (arith, common_steps, nat_tests)

pub returns-else-head-n : goal.returns-else-head-n
unfolding good largest
returns-else-head-n c = grind (arith, common_steps, nat_tests)
