use mathlib.Core.Path.{◌≡◌, ap, ◌∙◌}
use Rattle.std.specs.Prelude.{Ok}
use Rattle.derive.specs.declared.Started.{Started}
use Rattle.derive.specs.Started.{started, hmac_with}
use Rattle.derive.proofs.Laws.{exact, not_exact, hmac_no_key, hmac_fits, hmac_started}
use Rattle.derive.proofs.hmac.Goals as goal

pub returns-in_err-exactly : goal.returns-in_err-exactly
returns-in_err-exactly c = let h = not_exact 32 _ _ c.exactly.ensures c.in_err-exactly.was _ c.from_residual.ensures.1 in h.1 ∙ hmac_no_key _ _ h.0

pub returns : goal.returns
returns c = let x = c.args in
    let key = x.key.now in
    let m = x.m.now in
    let e = exact 32 _ _ c.exactly.ensures c.in_ok-exactly.was in
    let k : c.start.result ≡ started key = c.start.ensures ∙ ap started e.1 in
    ap Ok (c.hmac_with.ensures ∙ ap (λ (s : Started). hmac_with s m) k ∙ hmac_started key m) ∙ hmac_fits key m e.0
