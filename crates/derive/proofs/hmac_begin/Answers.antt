use mathlib.Core.Path.{ap, ◌∙◌}
use Rattle.std.specs.Prelude.{Ok}
use Rattle.derive.specs.Started.{started}
use Rattle.derive.proofs.Laws.{exact, not_exact}
use Rattle.derive.proofs.MacLaws.{begun_not, begun_fits}
use Rattle.derive.proofs.hmac_begin.Goals as goal

pub returns-in_err-exactly : goal.returns-in_err-exactly
returns-in_err-exactly c = let h = not_exact 32 _ _ c.exactly.ensures c.in_err-exactly.was _ c.from_residual.ensures.1 in h.1 ∙ begun_not _ h.0

pub returns : goal.returns
returns c = let e = exact 32 _ _ c.exactly.ensures c.in_ok-exactly.was in
    ap Ok (c.start.ensures ∙ ap started e.1) ∙ begun_fits _ e.0
