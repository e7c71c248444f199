use mathlib.Core.Path.{ap, ◌∙◌}
use Rattle.std.specs.Prelude.{Ok}
use Rattle.gost.specs.Gost.{subkeys}
use Rattle.cipher.proofs.AnswerLaws.{exact, not_exact}
use Rattle.cryptogram.proofs.AnswerLaws.{arpc_no_key, arpc_no_cryptogram, arpc_no_csu, arpc_made, same_arpc}
use Rattle.cryptogram.proofs.arpc.Goals as goal

pub returns-in_err-exactly : goal.returns-in_err-exactly
returns-in_err-exactly c = let h = not_exact 32 _ _ c.exactly.ensures c.in_err-exactly.was _ c.from_residual.ensures.1 in h.1 ∙ arpc_no_key _ _ _ h.0

pub returns-in_err-exactly-2 : goal.returns-in_err-exactly-2
returns-in_err-exactly-2 c =
    let h = not_exact 8 _ _ c.exactly-2.ensures c.in_err-exactly-2.was _ c.from_residual-in_err-exactly-2.ensures.1 in
    h.1 ∙ arpc_no_cryptogram _ _ _ h.0

pub returns-in_err-exactly-3 : goal.returns-in_err-exactly-3
returns-in_err-exactly-3 c =
    let h = not_exact 4 _ _ c.exactly-3.ensures c.in_err-exactly-3.was _ c.from_residual-in_err-exactly-3.ensures.1 in
    h.1 ∙ arpc_no_csu _ _ _ h.0

pub returns : goal.returns
returns c =
    let x = c.args in
    let k = exact 32 _ _ c.exactly.ensures c.in_ok-exactly.was in
    let g = exact 8 _ _ c.exactly-2.ensures c.in_ok-exactly-2.was in
    let u = exact 4 _ _ c.exactly-3.ensures c.in_ok-exactly-3.was in
    ap Ok (c.arpc_with.ensures ∙ same_arpc (c.expand-k.ensures ∙ ap (subkeys 8) k.1) g.1 u.1)
    ∙ arpc_made x.key.now x.cryptogram.now x.csu.now k.0 g.0 u.0
