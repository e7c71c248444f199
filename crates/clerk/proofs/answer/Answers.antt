use Rattle.std.proofs.Common.{◌≡◌, ◌<◌, ◌-◌, ◌++◌, ℕ, List, length, take, drop, arith, ap, sym, subst, ◌∙◌, append_assoc, length-drop}
use Rattle.std.proofs.lemmas.Bool.{eqb-true, eqb-false}
use Rattle.frames.proofs.FrameLaws.{rest_all}
use Rattle.std.specs.Io.KnownBytes.{Appends}
use Rattle.std.proofs.KnownBytes.{Appends-trans}
use Rattle.trace.proofs.FillLaws.{Progress, progress}
use Rattle.trace.specs.Feeding.{answers_all}
use Rattle.clerk.proofs.Laws.{goes_on_rest, used_up, says_on_rest, said_all, some_wider, some_more, at_error}
use Rattle.clerk.proofs.answer.Goals as goal

pub loop-rest-smaller : goal.loop-rest-smaller
loop-rest-smaller g c =
    let f = c.feed_into-f in
    let l = c.loop-rest in
    let s = l.rest.now in
    let p : Progress s l.out f.result f.new.out = progress l.t _ _ _ _ f.ensures in
    let n : length s ≡ 0 → ⊥ = eqb-false _ _ (sym c.is_empty.ensures ∙ c.loop-rest-test.true) in
    let z : 0 < f.result.taken = p.some l.invariant.0 (omega arith) in
    let e : length (take (length s - f.result.taken) (drop f.result.taken s)) ≡ length s - f.result.taken = ap length (rest_all f.result.taken s) ∙ length-drop f.result.taken s in
    rw e (omega arith)

pub slice_bounds-rest-count : goal.slice_bounds-rest-count
slice_bounds-rest-count g c =
    let f = c.feed_into-f in
    (progress c.loop-rest.t _ _ _ _ f.ensures).within

pub slice_bounds-rest-start : goal.slice_bounds-rest-start
slice_bounds-rest-start g c =
    let f = c.feed_into-f in
    (progress c.loop-rest.t _ _ _ _ f.ensures).within

pub loop-rest-preserved : goal.loop-rest-preserved
loop-rest-preserved g c =
    let f = c.feed_into-f in
    let l = c.loop-rest in
    let b = c.args.block.now in
    let p : Progress l.rest.now l.out f.result f.new.out = progress l.t _ _ _ _ f.ensures in
    let i = l.invariant.2 in (
      omega arith,
      goes_on_rest l.t _ l.rest.now b _ _ f.result f.ensures l.invariant.1,
      (
        i.0 ++ take f.result.written f.new.out,
        Appends-trans _ _ _ _ _ i.1 c.in_ok-write_out.ensures.ok,
        append_assoc i.0 _ _ ∙ ap (λ (s : List ℕ). i.0 ++ s) (says_on_rest l.t l.rest.now _ _ f.result f.ensures) ∙ i.2,
      ),
    )

pub returns-clause-trace : goal.returns-clause-trace
returns-clause-trace g c =
    let l = c.loop-rest in
    used_up l.t _ l.rest.now c.args.block.now (eqb-true _ _ (sym c.is_empty.ensures ∙ c.loop-rest-test.false)) l.invariant.1

pub returns-clause-written : goal.returns-clause-written
returns-clause-written g c =
    let l = c.loop-rest in
    let b = c.args.block.now in
    let i = l.invariant.2 in
    subst (Appends (g.W.Write.contents c.args.to.now) (g.W.Write.contents l.to)) (said_all l.t _ l.rest.now b i.0 (eqb-true _ _ (sym c.is_empty.ensures ∙ c.loop-rest-test.false)) i.2) i.1

pub returns-in_err-write_out-clause-err_written : goal.returns-in_err-write_out-clause-err_written
returns-in_err-write_out-clause-err_written g c =
    let f = c.feed_into-f in
    let l = c.loop-rest in
    let i = l.invariant.2 in
    let x = says_on_rest l.t l.rest.now _ _ f.result f.ensures in
    let s = some_wider _ _ (answers_all l.t l.rest.now) _ _ (sym x) c.in_err-write_out.ensures.err in
    at_error c.from_residual.result (some_more _ _ _ _ i.0 _ (sym i.2) i.1 s)
