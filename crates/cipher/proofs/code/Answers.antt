use mathlib.Core.Path.{ap, ◌∙◌}
use mathlib.Core.List.{List}
use Prim.Native.Nat.{ℕ}
use Rattle.gost.specs.Gost.{subkeys}
use Rattle.cipher.specs.Answers.{coded_with}
use Rattle.cipher.proofs.AnswerLaws.{exact, not_exact, no_code_key, code_key}
use Rattle.cipher.proofs.code.Goals as goal

pub returns-in_err-exactly : goal.returns-in_err-exactly
returns-in_err-exactly c = let h = not_exact 32 _ _ c.exactly.ensures c.in_err-exactly.was _ c.from_residual.ensures.1 in h.1 ∙ no_code_key _ _ h.0

pub returns : goal.returns
returns c =
    let x = c.args in
    let k = exact 32 _ _ c.exactly.ensures c.in_ok-exactly.was in
    c.code_with.ensures ∙ ap (λ (s : List ℕ). coded_with s x.string.now) (c.expand.ensures ∙ ap (subkeys 8) k.1) ∙ code_key x.key.now x.string.now k.0
