use native.Mathlib.Omega.{arith}
use mathlib.Core.Path.{refl, ap, sym, ◌∙◌}
use Rattle.std.proofs.lemmas.Result.{err_from_is_err_and}
use borrow.Author.Tests.{eqb-false}
use Rattle.answers.specs.Answers.{number_told}
use Rattle.answers.proofs.Laws.{not_zero}
use Rattle.templates.specs.Reading.{judged}
use Rattle.templates.specs.declared.Holder.TheVariants.{Outer}
use Rattle.scripts.specs.Writing.{fault_from}
use Rattle.scripts.specs.Inner.{Table}
use Rattle.scripts.proofs.FaultLaws.{fault_stop, fault_turn, fault_end}
use Rattle.scripts.proofs.FromLaws.{said_from}
use Rattle.scripts.proofs.fault_from.Goals as goal

pub loop-i-init : goal.loop-i-init
loop-i-init c = let b = c.args.objects.now in
    (omega arith, omega arith, ap (fault_from 1 Outer 0) (sym (said_from b)))

pub bounds-lengths-i : goal.bounds-lengths-i
unfolding Table
bounds-lengths-i c = let r = c.requires.room in omega arith

pub level_after-level-requires : goal.level_after-level-requires
level_after-level-requires c = c.object_at-o.ensures.low

pub returns-in_err-judge : goal.returns-in_err-judge
unfolding judged
returns-in_err-judge c = let l = c.loop-i in
    let p = err_from_is_err_and c.from_residual.result c.from_residual.ensures.1 in
    rw (p.1, p.2)
    (fault_stop c.args.objects.now c.args.lengths.now c.requires l.level l.holder l.i l.invariant.1 (omega arith) c.object_at-o.result
    c.object_at-o.ensures
    c.placed-fits.result c.placed-fits.ensures _ (ap number_told c.in_err-judge.ensures) (eqb-false _ _ (not_zero c.in_err-judge.field-0.0))
    ∙ l.invariant.2)

pub loop-i-preserved : goal.loop-i-preserved
unfolding judged
loop-i-preserved c = let l = c.loop-i in
    let t =
    fault_turn c.args.objects.now c.args.lengths.now c.requires l.level l.holder l.i l.invariant.1 (omega arith) c.object_at-o.result
    c.object_at-o.ensures
    c.placed-fits.result c.placed-fits.ensures 0 (ap number_told c.in_ok-judge.ensures) refl c.level_after-level.result
    c.level_after-level.ensures c.holder_after-holder.result
    c.holder_after-holder.ensures
    in
    let f = t.few in
    (omega arith, omega arith, t.same ∙ l.invariant.2)

pub returns : goal.returns
returns c = let x = c.args in
    let l = c.loop-i in
    fault_end l.level l.holder l.i _ x.objects.now l.i (omega arith) ∙ l.invariant.2
