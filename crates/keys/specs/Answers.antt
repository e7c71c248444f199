-- What the entry points answer, for every input, in 01's order of refusals. Assumes nothing.
use Rattle.std.specs.Prelude.{ℕ, ◌-◌, ◌&&◌, cond, List, ◌++◌, leb, take, replicate, Result, Ok, Err}
use Rattle.octets.specs.Lengths.{key_fits}
use Rattle.gost.specs.Gost.{encipher}
use Rattle.hash.specs.Hash.{hash256}
use Rattle.answers.specs.declared.Refusal.{Refusal}
use Rattle.answers.specs.declared.Refusal.TheVariants.{Input, CardNumber}
use Rattle.derive.specs.Derivation.{derived, card_label}
use Rattle.derive.specs.Answers.{seed_fits, card_derivation, derivation_kept}
use Rattle.keys.specs.CardNumber.{card_fits, Y, packed_y}
use Rattle.keys.specs.Seeds.{session_seed, idn_block}

-- 003, 4.1: a card master key from the seed y; 1 for the issuer's key, then 2 for the card
unfoldable pub card_answer : List ℕ → List ℕ → ℕ → List ℕ → Result (List ℕ) Refusal
card_answer key pan sequence y =
    cond (key_fits key) (cond (card_fits pan sequence) (Ok (derived key card_label y)) (Err CardNumber)) (Err Input)

unfoldable pub card_key : List ℕ → List ℕ → ℕ → Result (List ℕ) Refusal
card_key key pan sequence = card_answer key pan sequence (Y pan sequence)

unfoldable pub card_key_packed : List ℕ → List ℕ → ℕ → Result (List ℕ) Refusal
card_key_packed key pan sequence = card_answer key pan sequence (packed_y pan sequence)

-- the seed alone; 2 for the card
unfoldable pub seed_answer : List ℕ → ℕ → Result (List ℕ) Refusal
seed_answer pan sequence = cond (card_fits pan sequence) (Ok (Y pan sequence)) (Err CardNumber)

-- 003, 4.2.1: for cryptograms, from the transaction counter
unfoldable pub session_key : List ℕ → ℕ → Result (List ℕ) Refusal
session_key key atc = card_derivation key (session_seed atc)

-- 003, 4.2.2 and 4.2.3: for scripts, from the cryptogram
unfoldable pub script_key : List ℕ → List ℕ → Result (List ℕ) Refusal
script_key key cryptogram = card_derivation key cryptogram

-- both under the words of a kept master key; 1 where they are not 256, or a cryptogram is not 8 bytes
unfoldable pub session_key_kept : List ℕ → ℕ → Result (List ℕ) Refusal
session_key_kept ws atc = derivation_kept ws card_label (session_seed atc)

unfoldable pub script_key_kept : List ℕ → List ℕ → Result (List ℕ) Refusal
script_key_kept ws cryptogram = cond (seed_fits cryptogram) (derivation_kept ws card_label cryptogram) (Err Input)

-- 002, 4.3.1: the hash of the session key for cryptograms
unfoldable pub counter_key : List ℕ → Result (List ℕ) Refusal
counter_key key = cond (key_fits key) (Ok (hash256 key)) (Err Input)

-- 004, 4.1: the first n bytes of the enciphered counter; the other places of the answer are zero
unfoldable pub idn : List ℕ → ℕ → ℕ → List ℕ
idn key atc n = take n (encipher key (idn_block atc)) ++ replicate (8 - n) 0

unfoldable pub idn_answer : List ℕ → ℕ → ℕ → Result (List ℕ) Refusal
idn_answer key atc n = cond (key_fits key && (leb 2 n && leb n 8)) (Ok (idn key atc n)) (Err Input)
