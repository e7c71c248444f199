-- GOST 28147-89 (RFC 5830) in simple replacement mode, with the substitution id-tc26-gost-28147-param-Z (RFC 7836).
-- A word is a number below 2 ^ 32; octets stand least significant first. Assumes nothing.
use Rattle.std.specs.Prelude.{ℕ, zero, suc, ◌+◌, ◌*◌, ◌/◌, ◌%◌, ◌^◌, List, [], ◌∷◌, ◌++◌, reverse, take, drop, bit_xor, slice_index}
use Rattle.octets.specs.Numbers.{le, le_octets}
use Rattle.gost.specs.declared.Halves.{Halves}

-- RFC 7836, id-tc26-gost-28147-param-Z (RFC 8891 prints the same rows as Pi'0 to Pi'7): row i replaces half-byte i of a word, the least
-- significant first
abbrev pub pi0 : List ℕ
pi0 = 12 ∷ 4 ∷ 6 ∷ 2 ∷ 10 ∷ 5 ∷ 11 ∷ 9 ∷ 14 ∷ 8 ∷ 13 ∷ 7 ∷ 0 ∷ 3 ∷ 15 ∷ 1 ∷ []

abbrev pub pi1 : List ℕ
pi1 = 6 ∷ 8 ∷ 2 ∷ 3 ∷ 9 ∷ 10 ∷ 5 ∷ 12 ∷ 1 ∷ 14 ∷ 4 ∷ 7 ∷ 11 ∷ 13 ∷ 0 ∷ 15 ∷ []

abbrev pub pi2 : List ℕ
pi2 = 11 ∷ 3 ∷ 5 ∷ 8 ∷ 2 ∷ 15 ∷ 10 ∷ 13 ∷ 14 ∷ 1 ∷ 7 ∷ 4 ∷ 12 ∷ 9 ∷ 6 ∷ 0 ∷ []

abbrev pub pi3 : List ℕ
pi3 = 12 ∷ 8 ∷ 2 ∷ 1 ∷ 13 ∷ 4 ∷ 15 ∷ 6 ∷ 7 ∷ 0 ∷ 10 ∷ 5 ∷ 3 ∷ 14 ∷ 9 ∷ 11 ∷ []

abbrev pub pi4 : List ℕ
pi4 = 7 ∷ 15 ∷ 5 ∷ 10 ∷ 8 ∷ 1 ∷ 6 ∷ 13 ∷ 0 ∷ 9 ∷ 3 ∷ 14 ∷ 11 ∷ 4 ∷ 2 ∷ 12 ∷ []

abbrev pub pi5 : List ℕ
pi5 = 5 ∷ 13 ∷ 15 ∷ 6 ∷ 9 ∷ 2 ∷ 12 ∷ 10 ∷ 11 ∷ 7 ∷ 8 ∷ 1 ∷ 4 ∷ 3 ∷ 14 ∷ 0 ∷ []

abbrev pub pi6 : List ℕ
pi6 = 8 ∷ 14 ∷ 2 ∷ 5 ∷ 6 ∷ 9 ∷ 1 ∷ 12 ∷ 15 ∷ 4 ∷ 11 ∷ 0 ∷ 13 ∷ 10 ∷ 3 ∷ 7 ∷ []

abbrev pub pi7 : List ℕ
pi7 = 1 ∷ 7 ∷ 14 ∷ 13 ∷ 0 ∷ 5 ∷ 8 ∷ 3 ∷ 4 ∷ 15 ∷ 10 ∷ 6 ∷ 9 ∷ 12 ∷ 11 ∷ 2 ∷ []

unfoldable pub rows : List (List ℕ)
rows = pi0 ∷ pi1 ∷ pi2 ∷ pi3 ∷ pi4 ∷ pi5 ∷ pi6 ∷ pi7 ∷ []

-- RFC 5830, section 5.1. Each half-byte of x is replaced by what its row has there
unfoldable pub substituted : List (List ℕ) → ℕ → ℕ
substituted [] x = 0
substituted (p ∷ ps) x = slice_index p (x % 16) + 16 * substituted ps (x / 16)

-- a word shifted cyclically by 11 towards the most significant bit
unfoldable pub shifted : ℕ → ℕ
shifted x = x * 2 ^ 11 % 2 ^ 32 + x / 2 ^ 21

-- half and subkey are added modulo 2 to the 32; the sum is substituted and shifted
unfoldable pub mixed : ℕ → ℕ → ℕ
mixed x k = shifted (substituted rows ((x + k) % 2 ^ 32))

-- one round: N2 plus the mixed N1, modulo 2, becomes N1; the old N1 becomes N2
unfoldable pub round : ℕ → Halves → Halves
round k s = record { n1 = bit_xor s.n2 (mixed s.n1 k); n2 = s.n1 }

-- the rounds with the subkeys of ks in turn
unfoldable pub rounds : List ℕ → Halves → Halves
rounds [] s = s
rounds (k ∷ ks) s = rounds ks (round k s)

-- the 32nd round leaves N1 in its place and changes N2: the halves are exchanged back
unfoldable pub exchanged : Halves → Halves
exchanged s = record { n1 = s.n2; n2 = s.n1 }

-- the first n subkeys of a key, which has eight
unfoldable pub subkeys : ℕ → List ℕ → List ℕ
subkeys zero key = []
subkeys (suc n) key = le (take 4 key) ∷ subkeys n (drop 4 key)

-- a block's first four octets are N1, its last four N2
unfoldable pub halves : List ℕ → Halves
halves b = record { n1 = le (take 4 b); n2 = le (take 4 (drop 4 b)) }

unfoldable pub block : Halves → List ℕ
block s = le_octets 4 s.n1 ++ le_octets 4 s.n2

-- a block taken through the rounds with the subkeys of ks
unfoldable pub through : List ℕ → List ℕ → List ℕ
through ks b = block (exchanged (rounds ks (halves b)))

-- the order of the subkeys: three times up and once down to encipher, once up and three times down to decipher
-- (sections 5.1 and 5.2)
unfoldable pub forth : List ℕ → List ℕ
forth ks = ks ++ ks ++ ks ++ reverse ks

unfoldable pub back : List ℕ → List ℕ
back ks = ks ++ reverse ks ++ reverse ks ++ reverse ks

-- a block of 8 octets enciphered and deciphered under a key of 32
unfoldable pub encipher : List ℕ → List ℕ → List ℕ
encipher key b = through (forth (subkeys 8 key)) b

unfoldable pub decipher : List ℕ → List ℕ → List ℕ
decipher key b = through (back (subkeys 8 key)) b
