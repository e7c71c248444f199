use mathlib.Core.Path.{refl, sym}
use Prim.Native.Nat.{◌-◌}
use native.Mathlib.Omega.{arith}
use Rattle.scripts.proofs.WithinLaws.{bounds, within_start, within_filled, within_same, table_done}
use Rattle.scripts.proofs.lengths_of.Goals as goal

pub loop-i-init : goal.loop-i-init
loop-i-init c = let g = bounds c.args.objects.now c.measured-n.result c.measured-n.ensures in
    within_start _ _ _ refl g.few g.inside

pub object_at-o-requires : goal.object_at-o-requires
object_at-o-requires c = let w = c.loop-i.invariant.inside in let v = c.loop-i.invariant.start in omega arith

pub slice_bounds-bytes_within-end : goal.slice_bounds-bytes_within-end
slice_bounds-bytes_within-end c = sym c.loop-i.invariant.room

pub bytes_within-requires : goal.bytes_within-requires
bytes_within-requires c = let l = c.loop-i in within_same _ _ l.i _ (omega arith) l.invariant

pub loop-i-preserved : goal.loop-i-preserved
loop-i-preserved c = let l = c.loop-i in
    within_filled _ _ (l.i - 1) _ (within_same _ _ l.i _ (omega arith) l.invariant) _ c.object_at-o.ensures _ c.bytes_within.ensures _ c.own_length.ensures

pub returns : goal.returns
returns c = let l = c.loop-i in
    table_done c.args.objects.now c.measured-n.result l.i l.lengths c.measured-n.ensures (omega arith) l.invariant
