use mathlib.Core.Path.{◌≡◌, ap, ◌∙◌}
use Prim.Native.Nat.{ℕ, ◌+◌, ◌-◌}
use native.Mathlib.Omega.{arith}
use lib.ListN.{take, drop}
use Rattle.octets.specs.Numbers.{le}
use Rattle.hash.proofs.BlockLaws.{word_read}
use Rattle.hash.proofs.word_at.Goals as goal

pub returns : goal.returns
returns c = let a = c.args in
    let n : a.p + 8 - a.p ≡ 8 = omega arith in
    c.from_le_bytes.ensures
    ∙ word_read _ c.copy_from_slice.ensures.len
    ∙ ap le (c.copy_from_slice.ensures.after ∙ ap (λ (k : ℕ). take k (drop a.p a.m.now)) n)
