-- `parts::bytes_at` meets its contract: the array is written whole. Assumes nothing.
use mathlib.Core.Path.{◌≡◌, ap, ◌∙◌}
use Prim.Native.Nat.{ℕ, ◌+◌, ◌-◌}
use native.Mathlib.Omega.{arith}
use lib.ListN.{take, drop}
use Rattle.parts.proofs.bytes_at.Goals as goal

pub returns : goal.returns
returns g c = let a = c.args in
    let n : a.p + g.row.N - a.p ≡ g.row.N = omega arith in
    c.copy_from_slice.ensures.after ∙ ap (λ (k : ℕ). take k (drop a.p a.b.now)) n
