use native.Mathlib.Omega.{arith}
use Rattle.cipher.specs.Coding.{code_begun}
use Rattle.parts.specs.Forms.{code_form}
use Rattle.parts.proofs.LentLaws.{begun_length}
use Rattle.parts.proofs.code_begin.Goals as goal

pub returns-then-state-ne-CODE_STATE : goal.returns-then-state-ne-CODE_STATE
returns-then-state-ne-CODE_STATE c = begun_length code_form (code_begun c.args.key.now) c.args.state.now (λ e. omega arith)
