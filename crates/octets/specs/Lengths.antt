-- Lengths that more than one crate asks for. Assumes nothing.
use Rattle.std.specs.Prelude.{ℕ, Bool, List, eqb, length}

-- 01: "A key is 32 bytes."
unfoldable pub key_fits : List ℕ → Bool
key_fits key = eqb (length key) 32
