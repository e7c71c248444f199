-- KDF_GOSTR3411_2012_256 of R 50.1.113-2016 (RFC 7836, section 4.5): a key from a key, a label and a seed. Assumes nothing.
use Rattle.std.specs.Prelude.{List, [], ◌∷◌, ◌++◌, ℕ}
use Rattle.derive.specs.Hmac.{hmac}

-- 01, the label, 00, the seed, and the length of the key in bits, 256, as 01 00
unfoldable pub string : List ℕ → List ℕ → List ℕ
string label seed = 0x01 ∷ (label ++ 0x00 ∷ (seed ++ 0x01 ∷ 0x00 ∷ []))

unfoldable pub derived : List ℕ → List ℕ → List ℕ → List ℕ
derived key label seed = hmac key (string label seed)

-- 01, Keys: the label of card and session keys
unfoldable pub card_label : List ℕ
card_label = 0x21 ∷ 0x07 ∷ 0x22 ∷ 0xe6 ∷ []
