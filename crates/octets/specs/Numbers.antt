-- Numbers as octets. An octet is a number below 256, a string is a list of octets. Assumes nothing.
use Rattle.std.specs.Prelude.{ℕ, zero, suc, ◌+◌, ◌*◌, ◌/◌, ◌%◌, ◌<◌, List, [], ◌∷◌, reverse, get_or}

-- each element is an octet
abbrev pub Octets : List ℕ → Type 0
Octets s = (i : ℕ) → get_or s i 0 < 256

-- the number that a string stands for, least significant octet first
unfoldable pub le : List ℕ → ℕ
le [] = 0
le (b ∷ s) = b + 256 * le s

-- the n octets of a number, least significant octet first
unfoldable pub le_octets : ℕ → ℕ → List ℕ
le_octets zero x = []
le_octets (suc n) x = x % 256 ∷ le_octets n (x / 256)

-- the same, most significant octet first
unfoldable pub be : List ℕ → ℕ
be s = le (reverse s)

unfoldable pub be_octets : ℕ → ℕ → List ℕ
be_octets n x = reverse (le_octets n x)
