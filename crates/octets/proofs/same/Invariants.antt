-- No difference so far and equal rests are equal strings. Assumes nothing.
use Rattle.std.proofs.Common.{◌≡◌, length, ◌&&◌, eqb}
use Rattle.octets.specs.Same.{same}
use Rattle.octets.proofs.same.Given as goal

abbrev pub invariant-loop-x : goal.invariant-loop-x
invariant-loop-x l =
    (length l.x-iterator.a.rest.now ≡ length l.x-iterator.b.rest.now)
    × ((eqb l.differ 0 && same l.x-iterator.a.rest.now l.x-iterator.b.rest.now) ≡ same l.a l.b)
