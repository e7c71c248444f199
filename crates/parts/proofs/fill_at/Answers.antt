-- `parts::fill_at` meets its contract: a byte fits a `usize`. Assumes nothing.
use native.Mathlib.Omega.{arith}
use Rattle.parts.proofs.fill_at.Goals as goal

pub overflow_cast-result : goal.overflow_cast-result
overflow_cast-result c = omega (arith, c.shared_slice_known-1.given c.args.p)
