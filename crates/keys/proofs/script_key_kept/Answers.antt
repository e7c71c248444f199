use mathlib.Core.Path.{sym, ap, ◌∙◌}
use mathlib.Core.List.{List}
use Prim.Native.Nat.{ℕ}
use Rattle.std.specs.Prelude.{Err}
use Rattle.std.proofs.lemmas.Result.{err_from_is_err_and}
use Rattle.derive.specs.Answers.{derivation_kept}
use Rattle.keys.proofs.AnswerLaws.{script_no_seed, script_seed}
use Rattle.keys.proofs.script_key_kept.Goals as goal

pub returns-in_err-exactly : goal.returns-in_err-exactly
returns-in_err-exactly c = let a = c.args in
    let p = err_from_is_err_and c.from_residual.result c.from_residual.ensures.1 in
    p.1 ∙ ap Err p.2 ∙ script_no_seed a.kept.now a.cryptogram.now _ (sym c.in_err-exactly.was ∙ c.exactly.ensures)

pub returns : goal.returns
returns c = let a = c.args in
    c.derive_kept.ensures ∙ ap (λ (l : List ℕ). derivation_kept a.kept.now l c.in_ok-exactly.field-0) c.card_label.ensures
    ∙ script_seed a.kept.now a.cryptogram.now _ (sym c.in_ok-exactly.was ∙ c.exactly.ensures)
