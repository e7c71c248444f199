-- The authentication code of GOST 28147-89 (RFC 5830, section 8): 16 rounds a block of 8 octets, over one or more whole blocks (01).
-- Assumes nothing.
use Rattle.std.specs.Prelude.{ℕ, List, ◌++◌}
use Rattle.std.specs.Int.Bits.{bit_xor}
use Rattle.octets.specs.Numbers.{le_octets}
use Rattle.blocks.specs.Blocks.{absorbed}
use Rattle.gost.specs.declared.Halves.{Halves}
use Rattle.gost.specs.Gost.{rounds, halves}

-- two states added modulo 2
unfoldable pub added : Halves → Halves → Halves
added s t = record { n1 = bit_xor s.n1 t.n1; n2 = bit_xor s.n2 t.n2 }

-- a block is added to the state, and the first 16 of the 32 rounds follow: the subkeys twice up
unfoldable pub code_step : List ℕ → Halves → List ℕ → Halves
code_step ks s b = rounds (ks ++ ks) (added s (halves b))

-- zeros, so that the first block enters as it is
unfoldable pub start : Halves
start = record { n1 = 0; n2 = 0 }

-- the state after the whole blocks of m, under the subkeys of a key
unfoldable pub state : List ℕ → List ℕ → Halves
state ks m = absorbed 8 (code_step ks) start m

-- the code is N1 of the last state, least significant octet first
unfoldable pub code_of : List ℕ → List ℕ → List ℕ
code_of ks m = le_octets 4 (state ks m).n1
