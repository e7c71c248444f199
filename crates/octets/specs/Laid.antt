-- A string in a buffer that is lent. Assumes nothing.
use Rattle.std.specs.Prelude.{List, ◌++◌, ℕ, ◌+◌, length, take, drop}

-- string s laid over buffer b from a place on
unfoldable pub laid : List ℕ → ℕ → List ℕ → List ℕ
laid b place s = take place b ++ s ++ drop (place + length s) b
