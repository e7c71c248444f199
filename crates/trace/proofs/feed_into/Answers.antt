use mathlib.Core.Path.{refl}
use native.Mathlib.Omega.{arith}
use borrow.Author.Rules.{rules}
use Rattle.trace.proofs.KeptLaws.{ready_start, ready_next}
use Rattle.trace.proofs.FillLaws.{at_first, at_turn, fills_end, fills_full, turn_fits}
use Rattle.trace.proofs.feed_into.Goals as goal

pub loop-taken-init : goal.loop-taken-init
loop-taken-init c = (at_first _ _ _, omega arith, omega arith, ready_start _ _ _ _ _ refl (search rules) (search rules) (search rules))

pub turn-r-requires : goal.turn-r-requires
turn-r-requires c = c.loop-taken.invariant.3

pub put-requires : goal.put-requires
put-requires c = let l = c.loop-taken in
    let s = c.args.input.now in
    let f = c.turn-r.result.fed in
    let test = c.loop-taken-test.true in
    let room = c.if-out-written-lt-LONGEST_ANSWER.false in
    let g = turn_fits _ s _ _ l.after l.taken l.written f l.invariant.0 test room c.turn-r.ensures.feeds c.turn-r.ensures.long in
    (g.fits, g.few)

pub overflow_add-taken : goal.overflow_add-taken
overflow_add-taken c = let l = c.loop-taken in
    let s = c.args.input.now in
    let f = c.turn-r.result.fed in
    let test = c.loop-taken-test.true in
    let room = c.if-out-written-lt-LONGEST_ANSWER.false in
    let g = turn_fits _ s _ _ l.after l.taken l.written f l.invariant.0 test room c.turn-r.ensures.feeds c.turn-r.ensures.long in
    omega (arith, g.within, l.invariant.1)

pub overflow_add-written : goal.overflow_add-written
overflow_add-written c = let l = c.loop-taken in
    let s = c.args.input.now in
    let f = c.turn-r.result.fed in
    let test = c.loop-taken-test.true in
    let room = c.if-out-written-lt-LONGEST_ANSWER.false in
    let g = turn_fits _ s _ _ l.after l.taken l.written f l.invariant.0 test room c.turn-r.ensures.feeds c.turn-r.ensures.long in
    omega (arith, g.fits, l.invariant.0.room, l.invariant.2)

pub loop-taken-smaller : goal.loop-taken-smaller
loop-taken-smaller c = let l = c.loop-taken in
    let s = c.args.input.now in
    let f = c.turn-r.result.fed in
    let test = c.loop-taken-test.true in
    let room = c.if-out-written-lt-LONGEST_ANSWER.false in
    let g = turn_fits _ s _ _ l.after l.taken l.written f l.invariant.0 test room c.turn-r.ensures.feeds c.turn-r.ensures.long in
    g.less

pub loop-taken-preserved : goal.loop-taken-preserved
loop-taken-preserved c = let l = c.loop-taken in
    let s = c.args.input.now in
    let f = c.turn-r.result.fed in
    let test = c.loop-taken-test.true in
    let room = c.if-out-written-lt-LONGEST_ANSWER.false in
    let g = turn_fits _ s _ _ l.after l.taken l.written f l.invariant.0 test room c.turn-r.ensures.feeds c.turn-r.ensures.long in
    (at_turn _ s _ _ _ l.after l.taken l.written f.count f l.invariant.0 test room c.turn-r.ensures.feeds refl (rw c.turn-r.ensures.long g.few) g.few c.put.ensures, l.invariant.1, l.invariant.2, ready_next c.turn-r.ensures.feeds c.turn-r.ensures.ready)

pub shape_of-out-after-loop-taken : goal.shape_of-out-after-loop-taken
shape_of-out-after-loop-taken c = c.loop-taken.invariant.0.room

pub returns-after-loop-taken : goal.returns-after-loop-taken
returns-after-loop-taken c = search fills_end

pub shape_of-out-then-out-written-lt-LONGEST_ANSWER : goal.shape_of-out-then-out-written-lt-LONGEST_ANSWER
shape_of-out-then-out-written-lt-LONGEST_ANSWER c = c.loop-taken.invariant.0.room

pub returns-then-out-written-lt-LONGEST_ANSWER : goal.returns-then-out-written-lt-LONGEST_ANSWER
returns-then-out-written-lt-LONGEST_ANSWER c = search fills_full
