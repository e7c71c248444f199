use native.Mathlib.Omega.{arith}
use Rattle.std.specs.Prelude.{Ok}
use Rattle.hash.specs.States.{begun}
use Rattle.parts.specs.Forms.{hash_form}
use Rattle.parts.proofs.LentLaws.{begun_length}
use Rattle.parts.proofs.hash_begin.Goals as goal

pub returns-then-state-ne-HASH_STATE : goal.returns-then-state-ne-HASH_STATE
returns-then-state-ne-HASH_STATE c = begun_length hash_form (Ok begun) c.args.state.now (λ e. omega arith)
