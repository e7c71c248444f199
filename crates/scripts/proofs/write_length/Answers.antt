use native.Mathlib.Omega.{arith}
use mathlib.Core.Path.{ap}
use lib.ListN.{length, length-set}
use Rattle.shapes.specs.Length.{largest, largest_short}
use Rattle.shapes.proofs.LengthLaws.{field_short, field_long}
use Rattle.scripts.proofs.StoreLaws.{field_two, field_one}
use Rattle.scripts.proofs.write_length.Goals as goal

pub bounds-out-at : goal.bounds-out-at
unfolding largest_short
bounds-out-at c = let e = ap length (field_long c.args.n (omega arith)) in omega arith

pub overflow_cast-out-then-n-gt-LARGEST_SHORT : goal.overflow_cast-out-then-n-gt-LARGEST_SHORT
unfolding largest
overflow_cast-out-then-n-gt-LARGEST_SHORT c = record { fits = omega arith }

pub bounds-out-at-then-n-gt-LARGEST_SHORT : goal.bounds-out-at-then-n-gt-LARGEST_SHORT
unfolding largest_short
bounds-out-at-then-n-gt-LARGEST_SHORT c = let e = ap length (field_long c.args.n (omega arith)) in simp length-set (omega arith)

pub returns-then-n-gt-LARGEST_SHORT : goal.returns-then-n-gt-LARGEST_SHORT
unfolding largest_short
returns-then-n-gt-LARGEST_SHORT c = field_two c.args.out.now c.args.at c.args.n (omega arith) c.requires.1

pub bounds-out-at-2 : goal.bounds-out-at-2
unfolding largest_short
bounds-out-at-2 c = let e = ap length (field_short c.args.n (omega arith)) in omega arith

pub returns : goal.returns
unfolding largest_short
returns c = field_one c.args.out.now c.args.at c.args.n (omega arith) c.requires.1
