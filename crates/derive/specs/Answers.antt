-- What the entry points answer, for every input: the key, or refusal 1 of 01. Assumes nothing.
use Rattle.std.specs.Prelude.{ℕ, Bool, cond, List, eqb, length, replicate, Result, Ok, Err}
use Rattle.octets.specs.Lengths.{key_fits}
use Rattle.answers.specs.declared.Refusal.TheVariants.{Input}
use Rattle.answers.specs.declared.Refusal.{Refusal}
use Rattle.derive.specs.Hmac.{hmac}
use Rattle.derive.specs.Derivation.{derived, card_label}
use Rattle.derive.specs.Kept.{kept_fits, derived_kept, derived_over}

-- 01: a seed is 8 bytes
unfoldable pub seed_fits : List ℕ → Bool
seed_fits seed = eqb (length seed) 8

unfoldable pub maced : List ℕ → List ℕ → Result (List ℕ) Refusal
maced key m = cond (key_fits key) (Ok (hmac key m)) (Err Input)

-- RFC 7836, 4.5: label and seed of any length
unfoldable pub derivation : List ℕ → List ℕ → List ℕ → Result (List ℕ) Refusal
derivation key label seed = cond (key_fits key) (Ok (derived key label seed)) (Err Input)

-- 01, Keys: "Derivation from key K and an 8-byte seed", under the label of card and session keys
unfoldable pub card_derivation : List ℕ → List ℕ → Result (List ℕ) Refusal
card_derivation key seed = cond (seed_fits seed) (derivation key card_label seed) (Err Input)

-- the derivation under the words of a kept key
unfoldable pub derivation_kept : List ℕ → List ℕ → List ℕ → Result (List ℕ) Refusal
derivation_kept ws label seed = cond (kept_fits ws) (Ok (derived_kept ws label seed)) (Err Input)

-- the same with the constants cs, for a label of 4 bytes and a seed of 8
unfoldable pub derivation_over : List (List ℕ) → List ℕ → List ℕ → List ℕ → Result (List ℕ) Refusal
derivation_over cs ws label seed = cond (kept_fits ws) (Ok (derived_over cs ws label seed)) (Err Input)

-- the 32 bytes of a key; zeros for another length
unfoldable pub key_of : List ℕ → List ℕ
key_of key = cond (key_fits key) key (replicate 32 0)
