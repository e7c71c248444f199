use Rattle.std.proofs.Common.{◌≡◌, ◌≤◌, length, sym, ap, subst, take, length-take-le, arith}
use Rattle.std.specs.Io.KnownBytes.{Appends}
use Rattle.trace.specs.declared.Fed.{Fed}
use Rattle.trace.specs.Feeding.{ended, answer_in}
use Rattle.trace.proofs.FillLaws.{ended_count}
use Rattle.clerk.proofs.Laws.{whole, traced_some, whole_some, ok_more, err_more, at_error}
use Rattle.clerk.specs.Answered.{AppendsSome}
use Rattle.clerk.proofs.run.Goals as goal

pub shared_ref_as_front-write_out : goal.shared_ref_as_front-write_out
shared_ref_as_front-write_out g c =
    let h : c.end-last.result.count ≤ length c.end-last.result.answer = rw c.end-last.ensures (ended_count c.in_ok-t.t) in
    omega arith

pub slice_bounds-write_out-end : goal.slice_bounds-write_out-end
slice_bounds-write_out-end g c =
    let h : c.end-last.result.count ≤ length c.end-last.result.answer = rw c.end-last.ensures (ended_count c.in_ok-t.t) in
    sym (length-take-le _ c.end-last.result.answer (omega arith))

pub returns-clause-ok : goal.returns-clause-ok
returns-clause-ok g c =
    let e : take c.end-last.result.count c.end-last.result.answer ≡ answer_in (ended c.in_ok-t.t) = ap (λ (f : Fed). answer_in f) c.end-last.ensures in
    ok_more c.write_out.result (λ a. whole _ _ _ _ _ c.in_ok-t.t (c.in_ok-t.ensures.ok (omega arith)) (subst (Appends _ _) e a)) c.write_out.ensures.ok

pub returns-clause-err : goal.returns-clause-err
returns-clause-err g c =
    let e : take c.end-last.result.count c.end-last.result.answer ≡ answer_in (ended c.in_ok-t.t) = ap (λ (f : Fed). answer_in f) c.end-last.ensures in
    err_more c.write_out.result (λ a. whole_some _ _ _ _ _ c.in_ok-t.t (c.in_ok-t.ensures.ok (omega arith)) (subst (AppendsSome _ _) e a)) c.write_out.ensures.err

pub returns-in_err-t-clause-err : goal.returns-in_err-t-clause-err
returns-in_err-t-clause-err g c = at_error c.from_residual.result (traced_some _ _ _ c.in_err-t.ensures.err_written)
