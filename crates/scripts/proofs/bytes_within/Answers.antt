use native.Mathlib.Omega.{arith}
use Rattle.scripts.proofs.WithinLaws.{within_stop, within_turn, within_end}
use Rattle.scripts.proofs.bytes_within.Goals as goal

pub object_at-o-requires : goal.object_at-o-requires
object_at-o-requires c = let w = c.requires.inside in omega arith

pub returns-then-o-level : goal.returns-then-o-level
returns-then-o-level c = let l = c.loop-k in
    let x = c.args in
    let z = within_stop x.level x.n x.objects.now l.k (omega arith) c.object_at-o.result c.object_at-o.ensures c.if-o-level.true in
    let e = l.invariant.3 in
    omega arith

pub bounds-lengths-k : goal.bounds-lengths-k
bounds-lengths-k c = let w = c.requires.few in
    let v = c.requires.room in
    omega arith

pub added_by-sum-requires : goal.added_by-sum-requires
added_by-sum-requires c = c.object_at-o.ensures.short

pub overflow_add-sum : goal.overflow_add-sum
overflow_add-sum c = let w = c.requires.few in let a = c.added_by-sum.ensures.small in omega arith

pub loop-k-preserved : goal.loop-k-preserved
loop-k-preserved c = let l = c.loop-k in
    let x = c.args in
    let a = c.added_by-sum in
    let w = c.requires.each l.k (omega arith) (omega arith) in
    let z =
    within_turn x.level x.n x.objects.now l.k (omega arith) c.object_at-o.result c.object_at-o.ensures (omega arith) _ a.result w
    a.ensures
    in
    let e = l.invariant.3 in
    let m = a.ensures.small in
    (omega arith, omega arith, omega arith, omega arith)

pub returns : goal.returns
returns c = let x = c.args in
    let l = c.loop-k in
    let z = within_end x.level x.n x.objects.now l.k (omega arith) in
    let e = l.invariant.3 in
    omega arith
