use Rattle.std.proofs.Common.{arith}
use Rattle.std.proofs.lemmas.Grind.{common_steps}
use Rattle.std.proofs.lemmas.Bool.Decides.{nat_tests}
use Rattle.keys.specs.CardNumber.{card_fits}
use Rattle.keys.proofs.card_fits.Goals as goal

pub returns-then-sequence-le99 : goal.returns-then-sequence-le99
unfolding card_fits
returns-then-sequence-le99 c = grind (arith, common_steps, nat_tests)

pub returns-else-sequence-le99 : goal.returns-else-sequence-le99
unfolding card_fits
returns-else-sequence-le99 c = grind (arith, common_steps, nat_tests)
