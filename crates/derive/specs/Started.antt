-- The two hashes of a key, each with its padded key poured into it, so that many messages pay for the key once. Assumes nothing.
use Rattle.std.specs.Prelude.{List, ℕ}
use Rattle.hash.specs.States.{begun, poured_into, ended}
use Rattle.derive.specs.declared.Started.{Started}
use Rattle.derive.specs.Hmac.{ipad, opad}

unfoldable pub started : List ℕ → Started
started key = record { inner = poured_into begun (ipad key); outer = poured_into begun (opad key) }

unfoldable pub hmac_with : Started → List ℕ → List ℕ
hmac_with k m = ended (poured_into k.outer (ended (poured_into k.inner m)))
