-- Digits: of a card number or a PIN, one to an element, and of hexadecimal text. Assumes nothing.
use Rattle.std.specs.Prelude.{ℕ, zero, suc, ◌+◌, ◌-◌, ◌*◌, ◌/◌, ◌%◌, Bool, true, false, ◌&&◌, cond, List, [], ◌∷◌, leb, eqb}

-- n digits from 0 to 9, and fillers f to the end
unfoldable pub digits : ℕ → ℕ → List ℕ → Bool
digits f zero [] = true
digits f (suc n) [] = false
digits f zero (x ∷ s) = eqb x f && digits f zero s
digits f (suc n) (x ∷ s) = leb x 9 && digits f n s

-- each pair of digits as one byte: base 10 is the pair's number, base 16 packs half-bytes, the high half first
unfoldable pub pairs : ℕ → List ℕ → List ℕ
pairs base [] = []
pairs base (a ∷ []) = []
pairs base (a ∷ b ∷ s) = (base * a + b) ∷ pairs base s

-- the lower-case hexadecimal digit of a number below 16, in ASCII
unfoldable pub hex_digit : ℕ → ℕ
hex_digit n = cond (leb n 9) (48 + n) (87 + n)

-- the two digits of an octet
unfoldable pub hex_octet : ℕ → List ℕ
hex_octet b = hex_digit (b / 16) ∷ hex_digit (b % 16) ∷ []

-- the number that a hexadecimal digit stands for (0 to 9 are 48 to 57, a to f 97 to 102), and 16 for any other sign
unfoldable pub hex_value : ℕ → ℕ
hex_value x = cond (leb x 47) 16 (cond (leb x 57) (x - 48) (cond (leb x 96) 16 (cond (leb x 102) (x - 87) 16)))
