-- A core with the round keys of its next block, so that many messages that follow the same blocks pay for those keys once. They are kept as 128 words:
-- h, N and Sigma, and the 13 round keys, each of eight words. Assumes nothing.
use Rattle.std.specs.Prelude.{cond, List, [], ◌++◌, ℕ, ◌*◌, eqb, ltb, length, drop, replicate}
use Rattle.lps.specs.Vectors.{words, bytes}
use Rattle.rounds.specs.Sums.{vec}
use Rattle.rounds.specs.Rounds.{g_over}
use Rattle.rounds.specs.Lent.{vector_at}
use Rattle.rounds.specs.Keys.{keys_of, g_by}
use Rattle.hash.specs.Hash.{padded, after_block, closed}
use Rattle.hash.specs.States.{state_of, poured_into, ended}
use Rattle.hash.specs.declared.Core.{Core}

unfoldable pub ahead_of : Core → List ℕ
ahead_of c = c.h ++ (c.n ++ (c.sigma ++ keys_of c.n c.h))

-- the core that the words begin with
unfoldable pub core_in : List ℕ → Core
core_in a = record { h = vector_at a 0; n = vector_at a 8; sigma = vector_at a 16 }

-- a block m, of which n bits are of the message, by the round keys
unfoldable pub advanced_by : List ℕ → ℕ → List ℕ → Core
advanced_by a n m = after_block (core_in a) (g_by (drop 24 a) (core_in a).h m) n m

-- the hash that m ends: less than a block by the round keys, else by the core alone; zeros where the words are not 128
unfoldable pub ended_ahead : List ℕ → List ℕ → List ℕ
ended_ahead a m =
    cond (eqb (length a) 128)
    (cond (ltb (length m) 64) (closed (advanced_by a (8 * length m) (words (padded m)))) (ended (poured_into (state_of (core_in a) [] 0) m)))
    (replicate 32 0)

-- the last steps of stage 3 with the constants cs, which are made once for many hashes
unfoldable pub closed_over : List (List ℕ) → Core → List ℕ
closed_over cs c = drop 32 (bytes (g_over cs (vec 0) (g_over cs (vec 0) c.h c.n) c.sigma))

-- the last block of a message of less than a block; of another, zeros
unfoldable pub last_block : List ℕ → List ℕ
last_block m = cond (ltb (length m) 64) (words (padded m)) (replicate 8 0)

-- the hash that a last block m ends, of which n bits are of the message; zeros where the words are not 128
unfoldable pub ended_block : List (List ℕ) → List ℕ → ℕ → List ℕ → List ℕ
ended_block cs a n m = cond (eqb (length a) 128) (closed_over cs (advanced_by a n m)) (replicate 32 0)
