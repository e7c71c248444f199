use native.Mathlib.Omega.{arith}
use Rattle.frames.proofs.FrameLaws.{starts_unfit, starts_refused, starts_done}
use Rattle.frames.proofs.personalise.Goals.{then-rest-lt115-via-then-rest-lt115, then-rest-lt115-via-else-rest-lt115+then-rest-gt116}
use Rattle.frames.proofs.personalise.Goals as goal

pub returns-then-rest-lt115 : goal.returns-then-rest-lt115
returns-then-rest-lt115 c =
    elim c.then-rest-lt115.branch [ then-rest-lt115-via-then-rest-lt115 w ↦ starts_unfit _ _ _ (λ e. omega arith) (λ e. omega arith) c.refused.ensures | then-rest-lt115-via-else-rest-lt115+then-rest-gt116 w ↦ starts_unfit _ _ _ (λ e. omega arith) (λ e. omega arith) c.refused.ensures ]

pub returns-then-made-ne0 : goal.returns-then-made-ne0
returns-then-made-ne0 c = search starts_refused

pub returns : goal.returns
returns c = search starts_done
