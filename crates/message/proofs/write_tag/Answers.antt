use native.Mathlib.Omega.{arith}
use lib.ListN.{length-set}
use Rattle.shapes.specs.Length.{largest, largest_short}
use Rattle.shapes.proofs.LengthLaws.{place_is, place_short, place_long}
use Rattle.message.proofs.WrapLaws.{tag_short, tag_long}
use Rattle.message.proofs.write_tag.Goals as goal

pub bounds-part-0 : goal.bounds-part-0
bounds-part-0 c = omega (arith, place_is c.args.n)

pub bounds-part-1 : goal.bounds-part-1
unfolding largest_short
bounds-part-1 c = simp length-set (omega (arith, place_long c.args.n (omega arith)))

pub overflow_cast-part-then-n-gt-LARGEST_SHORT : goal.overflow_cast-part-then-n-gt-LARGEST_SHORT
unfolding largest
overflow_cast-part-then-n-gt-LARGEST_SHORT c = record { fits = omega arith }

pub bounds-part-2 : goal.bounds-part-2
unfolding largest_short
bounds-part-2 c = simp length-set (omega (arith, place_long c.args.n (omega arith)))

pub returns-then-n-gt-LARGEST_SHORT : goal.returns-then-n-gt-LARGEST_SHORT
unfolding largest_short
returns-then-n-gt-LARGEST_SHORT c = tag_long c.args.part.now c.args.tag c.args.n (omega arith) c.requires.1

pub bounds-part-1-2 : goal.bounds-part-1-2
unfolding largest_short
bounds-part-1-2 c = simp length-set (omega (arith, place_short c.args.n (omega arith)))

pub returns : goal.returns
unfolding largest_short
returns c = tag_short c.args.part.now c.args.tag c.args.n (omega arith) c.requires.1
