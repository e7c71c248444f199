-- Vectors of 512 bits as numbers (RFC 6986, its notations Int, Vec and ⊞). A vector is its eight words, lowest first. Assumes nothing.
use Rattle.std.specs.Prelude.{ℕ, zero, suc, ◌+◌, ◌*◌, ◌/◌, ◌%◌, ◌^◌, List, [], ◌∷◌}

-- Int(v)
unfoldable pub int : List ℕ → ℕ
int [] = 0
int (w ∷ v) = w + 2 ^ 64 * int v

-- the lowest k words of a number
unfoldable pub lowest : ℕ → ℕ → List ℕ
lowest zero n = []
lowest (suc k) n = n % 2 ^ 64 ∷ lowest k (n / 2 ^ 64)

-- Vec(n), of n modulo 2 to the 512
unfoldable pub vec : ℕ → List ℕ
vec n = lowest 8 n

infixl 20 ◌⊞◌
-- a ⊞ b, the sum modulo 2 to the 512
unfoldable pub ◌⊞◌ : List ℕ → List ℕ → List ℕ
a ⊞ b = vec (int a + int b)
