use native.Mathlib.Omega.{arith}
use mathlib.Core.Path.{ap}
use lib.ListN.{length, length-set}
use Rattle.scripts.proofs.StoreLaws.{bytes_two, bytes_one, tag_two, tag_one, tag_low}
use Rattle.scripts.proofs.write_tag.Goals as goal

pub bounds-out-at : goal.bounds-out-at
bounds-out-at c = let e = ap length (bytes_two c.args.tag c.if-tag-eq-IDENTIFIER.true) in omega arith

pub bounds-out-at-then-tag-eq-IDENTIFIER : goal.bounds-out-at-then-tag-eq-IDENTIFIER
bounds-out-at-then-tag-eq-IDENTIFIER c = let e = ap length (bytes_two c.args.tag c.if-tag-eq-IDENTIFIER.true) in simp length-set (omega arith)

pub returns-then-tag-eq-IDENTIFIER : goal.returns-then-tag-eq-IDENTIFIER
returns-then-tag-eq-IDENTIFIER c = tag_two c.args.out.now c.args.at c.args.tag c.if-tag-eq-IDENTIFIER.true c.requires.1

pub overflow_cast-out : goal.overflow_cast-out
overflow_cast-out c = record { fits = tag_low c.args.tag c.requires.0 c.if-tag-eq-IDENTIFIER.false }

pub bounds-out-at-2 : goal.bounds-out-at-2
bounds-out-at-2 c = let e = ap length (bytes_one c.args.tag c.if-tag-eq-IDENTIFIER.false) in omega arith

pub returns : goal.returns
returns c = tag_one c.args.out.now c.args.at c.args.tag c.if-tag-eq-IDENTIFIER.false c.requires.1
