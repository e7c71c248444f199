-- The seeds of session keys (01, Keys; 003, clause 4.2) and what is enciphered to an IDN (004, clause 4.1). Assumes nothing.
use Rattle.std.specs.Prelude.{ℕ, List, ◌∷◌, ◌++◌, replicate}
use Rattle.octets.specs.Numbers.{be_octets}

-- 003, 4.2.1: ATC, f0, five 00
unfoldable pub session_seed : ℕ → List ℕ
session_seed atc = be_octets 2 atc ++ 0xf0 ∷ replicate 5 0

-- 004, 4.1: ATC, six 00
unfoldable pub idn_block : ℕ → List ℕ
idn_block atc = be_octets 2 atc ++ replicate 6 0
