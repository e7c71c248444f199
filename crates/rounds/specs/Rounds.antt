-- The round functions of RFC 6986 (GOST R 34.11-2012), section 8. Assumes nothing.
use Rattle.std.specs.Prelude.{ℕ, List, [], ◌∷◌, map}
use Rattle.lps.specs.Vectors.{X, LPS}
use Rattle.rounds.specs.Constants.{C}
use Rattle.rounds.specs.Sums.{vec}

-- C_1 to C_12 as vectors
unfoldable pub constants : List (List ℕ)
constants = map vec C

-- E(K, m) = X[K_13] LPS X[K_12] .. LPS X[K_1](m), with K_1 = K: a round for each constant, K_(i+1) = LPS(K_i ⊕ C_i), and the last key
unfoldable pub E : List (List ℕ) → List ℕ → List ℕ → List ℕ
E [] k m = X k m
E (c ∷ cs) k m = E cs (LPS (X k c)) (LPS (X k m))

-- g_N(h, m) = E(LPS(h ⊕ N), m) ⊕ h ⊕ m, with the constants cs
unfoldable pub g_over : List (List ℕ) → List ℕ → List ℕ → List ℕ → List ℕ
g_over cs n h m = X (X (E cs (LPS (X h n)) m) h) m

-- and with those of the RFC
unfoldable pub g : List ℕ → List ℕ → List ℕ → List ℕ
g n h m = g_over constants n h m
