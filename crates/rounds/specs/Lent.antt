-- Vectors in words that are lent. Assumes nothing.
use Rattle.std.specs.Prelude.{ℕ, ◌+◌, cond, List, length, take, drop, replicate, nat_le}
use Rattle.std.proofs.Math.Seq.{paste}

-- the vector of eight words from word p on; where the words end before, zeros
unfoldable pub vector_at : List ℕ → ℕ → List ℕ
vector_at b p = cond (nat_le (p + 8) (length b)) (take 8 (drop p b)) (replicate 8 0)

-- b with the words w from word p on; where they do not fit, b as it was
unfoldable pub laid_words : List ℕ → ℕ → List ℕ → List ℕ
laid_words b p w = cond (nat_le (p + length w) (length b)) (paste b p w (length w)) b
