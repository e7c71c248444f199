use native.Mathlib.Omega.{arith}
use Rattle.derive.specs.Macing.{mac_begun}
use Rattle.parts.specs.Forms.{mac_form}
use Rattle.parts.proofs.LentLaws.{begun_length}
use Rattle.parts.proofs.hmac_begin.Goals as goal

pub returns-then-state-ne-HMAC_STATE : goal.returns-then-state-ne-HMAC_STATE
returns-then-state-ne-HMAC_STATE c = begun_length mac_form (mac_begun c.args.key.now) c.args.state.now (λ e. omega arith)
