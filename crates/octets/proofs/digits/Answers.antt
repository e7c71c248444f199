-- The digits that are left, from the place reached. Assumes nothing.
use native.Mathlib.Omega.{arith}
use Rattle.octets.proofs.DigitLaws.{digits_filler, digits_high, digits_rest, digits_more, digits_over}
use Rattle.octets.proofs.digits.Goals.{then-i-n+else-s-i-gt9, else-i-n+else-s-i}
use Rattle.octets.proofs.digits.Goals as goal

pub returns-then-s-i-gt9 : goal.returns-then-s-i-gt9
returns-then-s-i-gt9 c = search (arith, digits_high)

pub returns-then-s-i : goal.returns-then-s-i
returns-then-s-i c = search (arith, digits_filler)

pub loop-i-preserved : goal.loop-i-preserved
loop-i-preserved c = elim c.if-i-n.branch [ then-i-n+else-s-i-gt9 w ↦ search (arith, digits_more) | else-i-n+else-s-i w ↦ search (arith, digits_rest) ]

pub returns : goal.returns
returns c = search (arith, digits_over)
