use mathlib.Core.Path.{refl}
use native.Mathlib.Omega.{arith}
use Rattle.trace.proofs.FeedLaws.{feed_line, feed_kept_lem, feed_past, feed_end}
use Rattle.trace.proofs.feed_kept.Goals.{then-count-le-LONGEST, else-count-le-LONGEST}
use Rattle.trace.proofs.feed_kept.Goals as goal

pub loop-i-init : goal.loop-i-init
loop-i-init c = refl

pub returns-then-b-eq10 : goal.returns-then-b-eq10
returns-then-b-eq10 c = search feed_line

pub loop-i-preserved : goal.loop-i-preserved
loop-i-preserved c = let l = c.loop-i in
    elim c.if-count-le-LONGEST.branch [ then-count-le-LONGEST w ↦ feed_kept_lem c.args.t _ _ _ _ l.i c.loop-i-test.true l.invariant c.if-b-eq10.false w.if-count-le-LONGEST.true _ _ w.line-is w.count-is | else-count-le-LONGEST w ↦ feed_past c.args.t _ _ _ _ l.i c.loop-i-test.true l.invariant c.if-b-eq10.false w.if-count-le-LONGEST.false _ _ w.line-is w.count-is ]

pub returns : goal.returns
returns c = feed_end _ _ _ _ (omega arith) c.loop-i.invariant
