use native.Mathlib.Omega.{arith}
use mathlib.Core.Path.{refl, ap, sym, ◌∙◌}
use mathlib.Core.List.{List}
use lib.ListN.{length}
use Rattle.octets.specs.Laid.{laid}
use Rattle.templates.specs.declared.Object.{Object}
use Rattle.scripts.specs.Writing.{bytes_of}
use Rattle.scripts.proofs.FromLaws.{said_from}
use Rattle.scripts.proofs.WriteLaws.{count, left_all, table_all, object_fits, turned, laid_end}
use Rattle.scripts.proofs.write_objects.Goals as goal

pub loop-i-init : goal.loop-i-init
loop-i-init c = let x = c.args in
    let r = left_all x.objects.now x.source.now x.lengths.now (length x.out.now) x.at c.requires in
    (omega arith, refl, r, ap (λ (os : List Object). laid x.out.now x.at (bytes_of x.source.now os)) (sym (said_from x.objects.now)))

pub offset_bounds-lengths-i : goal.offset_bounds-lengths-i
offset_bounds-lengths-i c = let w = c.requires.few in omega arith

pub bounds-lengths-i : goal.bounds-lengths-i
bounds-lengths-i c = let f = c.requires.few in
    let r = (table_all c.args.objects.now c.args.lengths.now c.requires.few c.requires.table).room in
    omega arith

pub write_object-place-requires : goal.write_object-place-requires
write_object-place-requires c = let l = c.loop-i in
    let x = c.args in
    let b = x.objects.now in
    let w = table_all b x.lengths.now c.requires.few c.requires.table in
    object_fits (count b) b x.source.now x.lengths.now w l.i (omega arith) (length x.out.now) l.place l.invariant.2 c.object_at-o.result
    c.object_at-o.ensures
    l.out
    l.invariant.1

pub loop-i-preserved : goal.loop-i-preserved
loop-i-preserved c = let g = c.write_object-place in
    let l = c.loop-i in
    let x = c.args in
    let b = x.objects.now in
    let w = table_all b x.lengths.now c.requires.few c.requires.table in
    let t =
    turned (count b) b x.source.now x.lengths.now w l.i (omega arith) (length x.out.now) l.place l.invariant.2 c.object_at-o.result
    c.object_at-o.ensures
    l.out l.invariant.1 g.result g.new.out g.ensures
    in
    (omega arith, t.kept, t.left, t.same ∙ l.invariant.3)

pub shape_of-out : goal.shape_of-out
shape_of-out c = c.loop-i.invariant.1

pub returns : goal.returns
returns c = let x = c.args in
    let l = c.loop-i in
    laid_end (count x.objects.now) x.objects.now x.source.now l.i l.out l.place (omega arith) ∙ l.invariant.3
