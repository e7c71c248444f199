-- The session keys of a transaction (01, Keys and The soft card). Assumes nothing.
use Rattle.std.specs.Prelude.{ℕ, List}
use Rattle.hash.specs.Hash.{hash256}
use Rattle.derive.specs.Derivation.{derived, card_label}
use Rattle.keys.specs.Seeds.{session_seed}
use Rattle.card.specs.declared.Card.{Card}

-- for cryptograms, from the transaction counter
unfoldable pub session_key_of : Card → List ℕ
session_key_of r = derived r.ac card_label (session_seed r.atc)

-- for scripts, from the cryptogram: SMI for the code, SMC for secrecy
unfoldable pub smi_key : Card → List ℕ
smi_key r = derived r.smi card_label r.transaction.cryptogram

unfoldable pub smc_key : Card → List ℕ
smc_key r = derived r.smc card_label r.transaction.cryptogram

-- for the counter block: the hash of the session key for cryptograms
unfoldable pub counter_key_of : Card → List ℕ
counter_key_of r = hash256 (session_key_of r)
