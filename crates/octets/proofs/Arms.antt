-- The last arm of a match on a number whose arms are b, b + 1, .., b + k - 1 and `_`. Assumes nothing.
use mathlib.Core.Path.{◌≡◌, sym, subst}
use Prim.Native.Nat.{ℕ, zero, suc, ◌+◌, ◌<◌, ◌≤◌}
use native.Mathlib.Nat.{le_antisymm, le_of_suc-le-suc, add-zero, add-suc}
use lib.Arith.{lt_of_le-ne}

-- i is none of the k numbers from b on, as a match has it
abbrev pub None : ℕ → ℕ → ℕ → Type 0
None b zero i = Unit
None b (suc k) i = None b k i × (i ≡ b + k → ⊥)

above : (b k i : ℕ) → b ≤ i → None b k i → b + k ≤ i
above b zero i h r = subst (λ (n : ℕ). n ≤ i) (sym (add-zero b)) h
above b (suc k) i h r =
    subst (λ (n : ℕ). n ≤ i) (sym (add-suc b k)) (lt_of_le-ne (above b k i h r.0) (λ e. r.1 (sym e)))

pub last : (b k i : ℕ) → b ≤ i → None b k i → i < suc (b + k) → i ≡ b + k
last b k i h r l = le_antisymm (le_of_suc-le-suc l) (above b k i h r)
