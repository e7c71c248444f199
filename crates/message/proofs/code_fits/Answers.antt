use mathlib.Core.Path.{sym, ◌∙◌}
use native.Mathlib.Omega.{arith}
use borrow.Author.Tests.{not-false}
use lib.Seq.{length-take-le}
use Rattle.shapes.proofs.AnswerLaws.{told_data, told_body, told_other}
use Rattle.message.proofs.AnswerLaws.{fits_given, fits_shape, fits_code}
use borrow.Author.Rules.{rules}
use mathlib.Core.Bool.{not}
use mathlib.Core.Path.{ap, refl}
use Rattle.message.proofs.code_fits.Goals as goal

pub returns-then-not-given : goal.returns-then-not-given
returns-then-not-given c = fits_given _ _ _ _ c.given.ensures (ap not c.if-not-given.true)

pub returns-in_default : goal.returns-in_default
returns-in_default c = fits_shape _ _ _ _ c.given.ensures (ap not c.if-not-given.false) (told_other _ _ c.shape.ensures c.in_default.not-Ok)

pub overflow_add-k : goal.overflow_add-k
overflow_add-k c = let w = told_data _ _ _ c.in-Ok.ensures refl in
    record { fits = omega arith }

pub overflow_add-k-2 : goal.overflow_add-k-2
overflow_add-k-2 c = let w = told_data _ _ _ c.in-Ok.ensures refl in
    record { fits = omega arith }

pub slice_bounds-code_for-end : goal.slice_bounds-code_for-end
slice_bounds-code_for-end c = let w = told_data _ _ _ c.in-Ok.ensures refl in
    sym (length-take-le _ c.args.message.now (omega arith))

pub code_for-code-requires : goal.code_for-code-requires
code_for-code-requires c = (sym c.given.ensures ∙ not-false _ (ap not c.if-not-given.false), told_body _ _ _ _ (told_data _ _ _ c.in-Ok.ensures refl))

pub slice_bounds-same-count : goal.slice_bounds-same-count
slice_bounds-same-count c = let w = told_data _ _ _ c.in-Ok.ensures refl in
    omega arith

pub slice_bounds-same-start : goal.slice_bounds-same-start
slice_bounds-same-start c = let w = told_data _ _ _ c.in-Ok.ensures refl in
    search rules

pub returns : goal.returns
returns c = fits_code _ _ _ _ c.given.ensures (ap not c.if-not-given.false) _ _ _ (told_data _ _ _ c.in-Ok.ensures refl) _ c.code_for-code.ensures _ c.same.ensures
