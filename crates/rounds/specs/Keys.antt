-- E by its round keys (RFC 6986, section 8), so that keys that are known are not computed again. Assumes nothing.
use Rattle.std.specs.Prelude.{ℕ, zero, suc, Bool, cond, ◌&&◌, List, [], ◌∷◌, ◌++◌, length, drop, replicate, ◌==◌}
use Rattle.octets.specs.Same.{same}
use Rattle.lps.specs.Vectors.{X, LPS}
use Rattle.rounds.specs.Rounds.{constants, g_over, g}

-- the round keys from k on, one for each constant and the last: K_(i+1) = LPS(K_i ⊕ C_i)
unfoldable pub schedule : List (List ℕ) → List ℕ → List ℕ
schedule [] k = k
schedule (c ∷ cs) k = k ++ schedule cs (LPS (X k c))

-- the round keys of g_N(h, m): 13 keys of eight words, one after the other
unfoldable pub keys_of : List ℕ → List ℕ → List ℕ
keys_of n h = schedule constants (LPS (X h n))

-- n rounds from s on, each by the next key of ks; X takes the first eight words
unfoldable pub through_keys : ℕ → List ℕ → List ℕ → List ℕ
through_keys zero ks s = s
through_keys (suc n) ks s = through_keys n (drop 8 ks) (LPS (X ks s))

-- g_N(h, m) by its round keys
unfoldable pub g_by : List ℕ → List ℕ → List ℕ → List ℕ
g_by ks h m = X (X (X (drop 96 ks) (through_keys 12 ks m)) h) m

-- the same for any words: zeros where they are not 104
unfoldable pub g_with : List ℕ → List ℕ → List ℕ → List ℕ
g_with ks h m = cond (length ks == 104) (g_by ks h m) (replicate 8 0)

-- whether N is 0 and h is IV, 64 bytes 01, as at the first block of every hash
unfoldable pub is_first : List ℕ → List ℕ → Bool
is_first n h = same n (replicate 8 0) && same h (replicate 8 0x0101010101010101)

-- g_N(h, m) by the round keys there
unfoldable pub g_first : List ℕ → List ℕ → List ℕ
g_first h m = g_by (keys_of (replicate 8 0) (replicate 8 0x0101010101010101)) h m

-- g_N(h, m), with the constants cs where the block is not the first
unfoldable pub g_block : List (List ℕ) → List ℕ → List ℕ → List ℕ → List ℕ
g_block cs n h m = cond (is_first n h) (g n h m) (g_over cs n h m)
