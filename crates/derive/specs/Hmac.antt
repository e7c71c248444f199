-- HMAC_GOSTR3411_2012_256 of R 50.1.113-2016 (RFC 7836, section 4.1.1): HMAC of RFC 2104 over the hash with 256 bits, whose blocks
-- are 64 bytes. Assumes nothing.
use Rattle.std.specs.Prelude.{List, ◌++◌, map, ℕ, ◌-◌, length, replicate}
use Rattle.std.specs.Int.Bits.{bit_xor}
use Rattle.hash.specs.Hash.{hash256}

-- the key with zeros up to a block, each byte xored with p (for a key of at most a block; ours are 32 bytes)
unfoldable pub key_pad : ℕ → List ℕ → List ℕ
key_pad p key = map (λ b. bit_xor b p) (key ++ replicate (64 - length key) 0)

unfoldable pub ipad : List ℕ → List ℕ
ipad key = key_pad 0x36 key

unfoldable pub opad : List ℕ → List ℕ
opad key = key_pad 0x5c key

unfoldable pub hmac : List ℕ → List ℕ → List ℕ
hmac key m = hash256 (opad key ++ hash256 (ipad key ++ m))
