-- The PIN block (002, clause 4.2.1 and table 3): 16 half-bytes, two to a byte, the high half first. Digits of a PIN stand one to an
-- element. Assumes nothing.
use Rattle.std.specs.Prelude.{ℕ, ◌-◌, ◌/◌, ◌%◌, Bool, ◌&&◌, List, [], ◌∷◌, ◌++◌, leb, eqb, length, get_or, take, drop, replicate}
use Rattle.octets.specs.Digits.{digits, pairs}

-- table 3, N and P: a PIN of n digits from 0 to 9, n from 4 to 12, and fillers f to the end
unfoldable pub pin_fits : ℕ → ℕ → List ℕ → Bool
pin_fits f n s = leb 4 n && (leb n 12 && digits f n s)

-- bytes to half-bytes
unfoldable pub nibbles : List ℕ → List ℕ
nibbles [] = []
nibbles (b ∷ s) = b / 16 ∷ b % 16 ∷ nibbles s

-- written: C, which is 2, then N, the digits, and f to the end
unfoldable pub fields : List ℕ → List ℕ
fields pin = 2 ∷ length pin ∷ (pin ++ replicate (14 - length pin) 0xf)

unfoldable pub pin_block : List ℕ → List ℕ
pin_block pin = pairs 16 (fields pin)

-- read: the half-bytes h of a block are a PIN block, and its PIN
unfoldable pub well_formed : List ℕ → Bool
well_formed h = eqb (get_or h 0 0) 2 && pin_fits 0xf (get_or h 1 0) (drop 2 h)

unfoldable pub pin_of : List ℕ → List ℕ
pin_of h = take (get_or h 1 0) (drop 2 h)
