use Rattle.std.proofs.lemmas.Result.{err_from_is_err_and}
use Rattle.scripts.proofs.WriteLaws.{refused, measured_all, no_room, ready, written}
use mathlib.Core.Bool.{not}
use mathlib.Core.Path.{ap}
use Rattle.scripts.proofs.write_templates.Goals as goal

pub returns-in_err-check : goal.returns-in_err-check
returns-in_err-check c = let x = c.args in
    let p = err_from_is_err_and c.from_residual.result c.from_residual.ensures.1 in
    rw (p.1, p.2) (refused x.objects.now x.source.now x.out.now x.at c.in_err-check.field-0.0 c.in_err-check.ensures)

pub bytes_within-size-requires : goal.bytes_within-size-requires
bytes_within-size-requires c = let x = c.args in measured_all x.objects.now x.source.now x.out.now x.at _ c.lengths_of-lengths.ensures c.in_ok-check.ensures

pub returns-then-not-has_room : goal.returns-then-not-has_room
returns-then-not-has_room c = let x = c.args in
    no_room x.objects.now x.source.now x.out.now x.at _ c.lengths_of-lengths.ensures c.in_ok-check.ensures _ c.bytes_within-size.ensures
    c.has_room.result c.has_room.ensures (ap not c.if-not-has_room.true)

pub write_objects-requires : goal.write_objects-requires
write_objects-requires c = let x = c.args in
    ready x.objects.now x.source.now x.out.now x.at _ c.lengths_of-lengths.ensures c.in_ok-check.ensures _ c.bytes_within-size.ensures
    c.has_room.result c.has_room.ensures (ap not c.if-not-has_room.false)

pub returns : goal.returns
returns c = let x = c.args in
    written x.objects.now x.source.now x.out.now x.at _ c.lengths_of-lengths.ensures c.in_ok-check.ensures _ c.bytes_within-size.ensures
    c.has_room.result c.has_room.ensures (ap not c.if-not-has_room.false) c.write_objects.new.out c.write_objects.ensures
