-- A word through the matrix (RFC 6986, section 6.4), and a byte through the table of bytes and the matrix. Assumes nothing.
use Rattle.std.specs.Prelude.{cond, List, [], ◌∷◌, reverse, ℕ, ◌*◌, ◌/◌, ◌%◌, ◌^◌, ltb, get_or}
use Rattle.std.specs.Int.Bits.{bit_xor}
use Rattle.tables.specs.Tables.{pi, A}

-- the sum modulo 2 of the rows, each times its bit of b, the first row with bit 0
unfoldable pub lin : List ℕ → ℕ → ℕ
lin [] b = 0
lin (r ∷ rs) b = bit_xor (b % 2 * r) (lin rs (b / 2))

-- section 6.4: l(b) = b63 A[0] ⊕ .. ⊕ b0 A[63], the bits of b
unfoldable pub l : ℕ → ℕ
l b = lin (reverse A) b

-- l of pi(b) as byte j of a word, the other bytes 0: word b of table j
unfoldable pub entry : ℕ → ℕ → ℕ
entry j b = l (256 ^ j * get_or pi b 0)

-- word k of the eight tables one after the other; 0 after the last
unfoldable pub entry_at : ℕ → ℕ
entry_at k = cond (ltb k 2048) (entry (k / 256) (k % 256)) 0
