use native.Mathlib.Omega.{arith}
use Rattle.shapes.specs.Length.{largest}
use Rattle.shapes.proofs.LengthLaws.{place_small}
use Rattle.message.proofs.WrapLaws.{wrap_given, wrap_tag, wrap_most, wrap_place, wrap_room, wrap_fits}
use mathlib.Core.Bool.{not}
use mathlib.Core.Path.{ap}
use Rattle.message.proofs.may_wrap.Goals.{then-not-given-via-then-not-given, then-not-given-via-else-not-given+then-not-is_tag, then-not-given-via-else-not-given+else-not-is_tag+then-n-gt-LARGEST, then-size-place-via-then-size-place, then-size-place-via-else-size-place+then-size-place-2}
use Rattle.message.proofs.may_wrap.Goals as goal

pub returns-then-not-given : goal.returns-then-not-given
unfolding largest
returns-then-not-given c =
    elim c.then-not-given.branch [
      | then-not-given-via-then-not-given w ↦ wrap_given _ _ _ _ _ _ _ c.given.ensures (ap not w.if-not-given.true)
      | then-not-given-via-else-not-given+then-not-is_tag w ↦ wrap_tag _ _ _ _ _ _ _ w.is_tag.ensures (ap not w.if-not-is_tag.true)
      | then-not-given-via-else-not-given+else-not-is_tag+then-n-gt-LARGEST w ↦ wrap_most _ _ _ _ _ _ (omega arith)
    ]

pub overflow_add-place_of : goal.overflow_add-place_of
overflow_add-place_of c = record { fits = omega (arith, place_small c.args.n) }

pub overflow_add-place_of-else-size-place : goal.overflow_add-place_of-else-size-place
overflow_add-place_of-else-size-place c = record { fits = omega (arith, place_small c.args.n) }

pub returns-then-size-place : goal.returns-then-size-place
unfolding largest
returns-then-size-place c =
    let x = c.args in
    let place = wrap_place x.key.now x.header.now x.tag x.n x.size x.place _ c.given.ensures (ap not c.if-not-given.false) _ c.is_tag.ensures (ap not c.if-not-is_tag.false) (omega arith) in
    let room = wrap_room x.key.now x.header.now x.tag x.n x.size x.place _ c.given.ensures (ap not c.if-not-given.false) _ c.is_tag.ensures (ap not c.if-not-is_tag.false) (omega arith) in
    elim c.then-size-place.branch [
      | then-size-place-via-then-size-place w ↦ place w.if-size-place.true
      | then-size-place-via-else-size-place+then-size-place-2 w ↦ room w.if-size-place.false _ w.place_of.ensures w.if-size-place-2.true
    ]

pub returns : goal.returns
unfolding largest
returns c = wrap_fits _ _ _ _ _ _ _ c.given.ensures (ap not c.if-not-given.false) _ c.is_tag.ensures (ap not c.if-not-is_tag.false) (omega arith) c.if-size-place.false _ c.place_of.ensures c.if-size-place-2.false
