-- A key kept for many seeds: its two hashes after the padded key, each with the round keys of its next block, as 256 words. Assumes nothing.
use Rattle.std.specs.Prelude.{Bool, List, ◌++◌, ℕ, eqb, length, take, drop}
use Rattle.hash.specs.Ahead.{ahead_of, ended_ahead, last_block, ended_block}
use Rattle.derive.specs.Derivation.{string}
use Rattle.derive.specs.Started.{started}

-- the words of the inner hash, and those of the outer
unfoldable pub kept_words : List ℕ → List ℕ
kept_words key = ahead_of (started key).inner.core ++ ahead_of (started key).outer.core

-- a kept key is 256 words
unfoldable pub kept_fits : List ℕ → Bool
kept_fits ws = eqb (length ws) 256

-- the outer hash of the inner hash of the string
unfoldable pub derived_kept : List ℕ → List ℕ → List ℕ → List ℕ
derived_kept ws label seed = ended_ahead (drop 128 ws) (ended_ahead (take 128 ws) (string label seed))

-- the same with the constants cs, by the last block of each hash: 16 bytes of the string, 32 of the inner hash
unfoldable pub derived_over : List (List ℕ) → List ℕ → List ℕ → List ℕ → List ℕ
derived_over cs ws label seed = ended_block cs (drop 128 ws) 256 (last_block (ended_block cs (take 128 ws) 128 (last_block (string label seed))))
