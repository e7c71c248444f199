use mathlib.Core.Path.{sym, ◌∙◌}
use Rattle.frames.proofs.FrameLaws.{overlong_idle, overlong_open}
use Rattle.frames.proofs.too_long.Goals as goal

pub returns-then-close-number : goal.returns-then-close-number
returns-then-close-number c = overlong_idle _ _ _ c.close.ensures (c.if-close-number.true ∙ c.number.ensures) c.refused.ensures

pub returns : goal.returns
returns c = overlong_open _ _ _ c.close.ensures (λ e. c.if-close-number.false (e ∙ sym c.number.ensures)) c.refused-2.ensures
