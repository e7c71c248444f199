-- A message taken in blocks of a size by a step (01, last line: "Where cipher, code and hash share a step over blocks, show it once").
-- Assumes nothing.
use Rattle.std.specs.Prelude.{List, ℕ, zero, suc, ◌*◌, ◌/◌, length, take, drop}

module _ {A : Type 0} (size : ℕ) (step : A → List ℕ → A) where
  -- the state after the first n blocks
  unfoldable pub taken : ℕ → A → List ℕ → A
  taken zero a m = a
  taken (suc n) a m = taken n (step a (take size m)) (drop size m)

  -- the state after all whole blocks
  unfoldable pub absorbed : A → List ℕ → A
  absorbed a m = taken (length m / size) a m

-- what the whole blocks leave
unfoldable pub tail : ℕ → List ℕ → List ℕ
tail size m = drop (length m / size * size) m
