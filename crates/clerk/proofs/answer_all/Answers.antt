use Rattle.std.proofs.Common.{rules, arith, ◌<◌, ◌++◌, length, ◌≡◌, ℕ, List, [], take, ap, sym, ◌∙◌, subst, length-append, append-nil}
use mathlib.Core.Logic.{inl, inr}
use Rattle.std.specs.Io.KnownBytes.{Consumes}
use Rattle.std.proofs.KnownBytes.{Appends-nil, Consumes-nil, Consumes-trans}
use Rattle.trace.specs.declared.Trace.{Trace}
use Rattle.trace.specs.Feeding.{begun, after_all, answers_all}
use Rattle.trace.proofs.TraceLaws.{fed_fed}
use Rattle.clerk.proofs.Laws.{said_more, said_some, said_some_more, some_all, at_error}
use Rattle.clerk.proofs.answer_all.Goals as goal

pub loop-init : goal.loop-init
unfolding after_all answers_all
loop-init g c = (search rules, ([], Consumes-nil _, c.begin-t.ensures, Appends-nil _, omega arith))

pub loop-preserved : goal.loop-preserved
loop-preserved g c =
    let l = c.loop in
    let i = l.invariant.1 in
    let p : List ℕ = take c.in_ok-n.n c.read.new.buf in
    let k : length p ≡ c.in_ok-n.n = sym c.in_ok-n.ensures.bound.1 in
    let m : 0 < c.in_ok-n.n = omega arith in (
      omega arith,
      (
        i.0 ++ p,
        Consumes-trans _ _ _ _ _ i.1 c.in_ok-n.ensures.bytes.0,
        c.in_ok-t.ensures.trace ∙ ap (λ (u : Trace). after_all u p) i.2 ∙ sym (fed_fed begun i.0 p).0,
        said_more _ _ _ l.t i.0 p i.2 i.3 c.in_ok-t.ensures.written,
        rw length-append (omega arith),
      ),
    )

pub returns-then-n-eq0-clause-ok : goal.returns-then-n-eq0-clause-ok
returns-then-n-eq0-clause-ok g c =
    let l = c.loop in
    let i = l.invariant.1 in
    let z : c.in_ok-n.n ≡ 0 = omega arith in
    let e : i.0 ++ take c.in_ok-n.n c.read.new.buf ≡ i.0 = ap (λ (n : ℕ). i.0 ++ take n c.read.new.buf) z ∙ append-nil i.0 in
    λ h.
    record {
      bytes = i.0;
      read = subst (Consumes _ _) e (Consumes-trans _ _ _ _ _ i.1 c.in_ok-n.ensures.bytes.0);
      trace = i.2;
      written = i.3;
      all = inl (c.in_ok-n.ensures.bytes.1 z (omega (arith, c.loop.auto.block, c.read.auto.buf)));
    }

pub returns-clause-ok : goal.returns-clause-ok
returns-clause-ok g c =
    let i = c.loop.invariant.1 in
    λ h. record { bytes = i.0; read = i.1; trace = i.2; written = i.3; all = inr (omega (arith, i.4)) }

pub returns-in_err-n-clause-err_written : goal.returns-in_err-n-clause-err_written
returns-in_err-n-clause-err_written g c =
    let i = c.loop.invariant.1 in
    at_error c.from_residual.result (said_some _ _ _ _ i.0 i.1 (some_all _ _ _ i.3))

pub returns-in_err-t-clause-err_written : goal.returns-in_err-t-clause-err_written
returns-in_err-t-clause-err_written g c =
    let l = c.loop in
    let i = l.invariant.1 in
    let p : List ℕ = take c.in_ok-n.n c.read.new.buf in
    let s = said_some_more _ _ _ l.t i.0 p i.2 i.3 c.in_err-t.ensures.err_written in
    at_error c.from_residual-in_err-t.result (said_some _ _ _ _ (i.0 ++ p) (Consumes-trans _ _ _ _ _ i.1 c.in_ok-n.ensures.bytes.0) s)
