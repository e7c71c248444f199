use mathlib.Core.Path.{ap, ◌∙◌}
use Rattle.std.specs.Prelude.{Ok}
use Rattle.gost.specs.Gost.{subkeys}
use Rattle.cipher.specs.Coding.{coding_begun}
use Rattle.cipher.proofs.AnswerLaws.{exact, not_exact}
use Rattle.cipher.proofs.CodingLaws.{begun_not, begun_fits}
use Rattle.cipher.proofs.code_begin.Goals as goal

pub returns-in_err-exactly : goal.returns-in_err-exactly
returns-in_err-exactly c = let h = not_exact 32 _ _ c.exactly.ensures c.in_err-exactly.was _ c.from_residual.ensures.1 in h.1 ∙ begun_not _ h.0

pub returns : goal.returns
returns c =
    let k = exact 32 _ _ c.exactly.ensures c.in_ok-exactly.was in
    ap Ok (c.begun_with.ensures ∙ ap coding_begun (c.expand.ensures ∙ ap (subkeys 8) k.1)) ∙ begun_fits c.args.key.now k.0
