-- The hash of RFC 6986 (GOST R 34.11-2012), section 9, at 256 bits. The RFC writes a message from its highest byte down; here it is a
-- list from the lowest byte up, so that its blocks are taken from the front. Assumes nothing.
use Rattle.std.specs.Prelude.{List, ◌∷◌, ◌++◌, ℕ, ◌-◌, ◌*◌, length, drop, replicate}
use Rattle.blocks.specs.Blocks.{absorbed, tail}
use Rattle.lps.specs.Vectors.{words, bytes}
use Rattle.rounds.specs.Sums.{vec, ◌⊞◌}
use Rattle.rounds.specs.Rounds.{g}
use Rattle.hash.specs.declared.Core.{Core}

-- Stage 1: h = IV, N = 0, Sigma = 0. IV is 64 bytes 01 (section 6.1)
unfoldable pub start : Core
start = record { h = words (replicate 64 1); n = vec 0; sigma = vec 0 }

-- N = N ⊞ n, Sigma = Sigma ⊞ m: after a block m that makes h, of which n bits are of the message
unfoldable pub after_block : Core → List ℕ → ℕ → List ℕ → Core
after_block c h n m = record { h = h; n = c.n ⊞ vec n; sigma = c.sigma ⊞ m }

-- and h = g_N(h, m)
unfoldable pub advanced : Core → ℕ → List ℕ → Core
advanced c n m = after_block c (g c.n c.h m) n m

-- Stage 2: a whole block
unfoldable pub block_step : Core → List ℕ → Core
block_step c b = advanced c 512 (words b)

-- Stage 3: the rest t, fewer than 64 bytes, as the block 0 .. 0 1 || t
unfoldable pub padded : List ℕ → List ℕ
padded t = t ++ 1 ∷ replicate (63 - length t) 0

-- and then h = g_0(h, N), h = g_0(h, Sigma), and MSB_256, the 256 highest bits of h
unfoldable pub closed : Core → List ℕ
closed c = drop 32 (bytes (g (vec 0) (g (vec 0) c.h c.n) c.sigma))

-- Stage 3 whole
unfoldable pub finished : Core → List ℕ → List ℕ
finished c t = closed (advanced c (8 * length t) (words (padded t)))

-- Stages 1, 2 and 3
unfoldable pub hash256 : List ℕ → List ℕ
hash256 m = finished (absorbed 64 block_step start m) (tail 64 m)
