use mathlib.Core.Path.{ap, ◌∙◌}
use mathlib.Core.Bool.{not}
use Rattle.std.specs.Prelude.{Err}
use Rattle.std.proofs.lemmas.Result.{err_from_is_err_and}
use Rattle.shapes.proofs.AnswerLaws.{told_data, told_refused, why_refused}
use Rattle.message.proofs.AnswerLaws.{tells_opened, open_given, open_shape, open_code, open_data}
use Rattle.message.proofs.open_message.Goals as goal

pub returns-then-not-given : goal.returns-then-not-given
returns-then-not-given c = tells_opened _ _ _ (open_given _ _ _ _ c.given.ensures (ap not c.if-not-given.true))

pub returns-in_err-found : goal.returns-in_err-found
returns-in_err-found c =
    let p = err_from_is_err_and c.from_residual.result c.from_residual.ensures.1 in
    let e = p.1 ∙ ap Err (p.2 ∙ why_refused _ _ _ c.shape.ensures c.in_err-found.was) in
    tells_opened _ _ _ (e ∙ open_shape _ _ _ _ c.given.ensures (ap not c.if-not-given.false) (told_refused _ _ _ c.shape.ensures c.in_err-found.was))

pub returns-then-not-code_fits : goal.returns-then-not-code_fits
returns-then-not-code_fits c =
    tells_opened _ _ _
    (open_code _ _ _ _ c.given.ensures (ap not c.if-not-given.false) _ _ _ (told_data _ _ _ c.shape.ensures c.in_ok-found.was) _ c.code_fits.ensures (ap not c.if-not-code_fits.true))

pub returns : goal.returns
returns c =
    tells_opened _ _ _
    (open_data _ _ _ _ c.given.ensures (ap not c.if-not-given.false) _ _ _ (told_data _ _ _ c.shape.ensures c.in_ok-found.was) _ c.code_fits.ensures (ap not c.if-not-code_fits.false))
