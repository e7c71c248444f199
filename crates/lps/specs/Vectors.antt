-- Vectors of 512 bits, and the transformations of RFC 6986 (GOST R 34.11-2012), section 7, with the permutation of section 6.3. The RFC writes a vector from its highest
-- place down; here it is a list from its lowest place up: eight words of 64 bits, or 64 bytes. Assumes nothing.
use Rattle.std.specs.Prelude.{List, [], ◌∷◌, ◌++◌, map, ℕ, ◌*◌, get_or, take, drop}
use Rattle.std.specs.Int.Bits.{bit_xor}
use Rattle.octets.specs.Numbers.{le, le_octets}
use Rattle.tables.specs.Tables.{pi}
use Rattle.tables.specs.Matrix.{l}

-- f(0) to f(7), the lowest first
abbrev pub each : (ℕ → ℕ) → List ℕ
each f = f 0 ∷ f 1 ∷ f 2 ∷ f 3 ∷ f 4 ∷ f 5 ∷ f 6 ∷ f 7 ∷ []

-- the bytes of a vector's words
unfoldable pub bytes : List ℕ → List ℕ
bytes [] = []
bytes (w ∷ v) = le_octets 8 w ++ bytes v

-- the eight words of a vector's bytes
unfoldable pub words : List ℕ → List ℕ
words b = each (λ i. le (take 8 (drop (8 * i) b)))

-- X[k](a) = k ⊕ a
unfoldable pub X : List ℕ → List ℕ → List ℕ
X k a = each (λ i. bit_xor (get_or k i 0) (get_or a i 0))

-- S(a) = pi(a63) || .. || pi(a0), the bytes of a
unfoldable pub S : List ℕ → List ℕ
S a = map (λ b. get_or pi b 0) a

-- section 6.3: the permutation of bytes, from tau(0) to tau(63)
unfoldable pub tau : List ℕ
tau =
    0 ∷ 8 ∷ 16 ∷ 24 ∷ 32 ∷ 40 ∷ 48 ∷ 56 ∷
    1 ∷ 9 ∷ 17 ∷ 25 ∷ 33 ∷ 41 ∷ 49 ∷ 57 ∷
    2 ∷ 10 ∷ 18 ∷ 26 ∷ 34 ∷ 42 ∷ 50 ∷ 58 ∷
    3 ∷ 11 ∷ 19 ∷ 27 ∷ 35 ∷ 43 ∷ 51 ∷ 59 ∷
    4 ∷ 12 ∷ 20 ∷ 28 ∷ 36 ∷ 44 ∷ 52 ∷ 60 ∷
    5 ∷ 13 ∷ 21 ∷ 29 ∷ 37 ∷ 45 ∷ 53 ∷ 61 ∷
    6 ∷ 14 ∷ 22 ∷ 30 ∷ 38 ∷ 46 ∷ 54 ∷ 62 ∷
    7 ∷ 15 ∷ 23 ∷ 31 ∷ 39 ∷ 47 ∷ 55 ∷ 63 ∷ []

-- P(a) = a_tau(63) || .. || a_tau(0), the bytes of a
unfoldable pub P : List ℕ → List ℕ
P a = map (λ i. get_or a i 0) tau

-- L(a) = l(a7) || .. || l(a0), the words of a
unfoldable pub L : List ℕ → List ℕ
L a = map l a

-- L(P(S(a))), on the words of a
unfoldable pub LPS : List ℕ → List ℕ
LPS a = L (words (P (S (bytes a))))
