-- What the entry points answer, for every input, in 01's order of refusals. Assumes nothing.
use Rattle.std.specs.Prelude.{ℕ, ◌-◌, ◌&&◌, cond, List, ◌++◌, length, take, replicate, Result, Ok, Err}
use Rattle.gost.specs.Gost.{encipher, decipher}
use Rattle.octets.specs.Lengths.{key_fits}
use Rattle.cipher.specs.Answers.{block_fits}
use Rattle.answers.specs.declared.Refusal.{Refusal}
use Rattle.answers.specs.declared.Refusal.TheVariants.{Input, PinFormat, PinDigits}
use Rattle.pin.specs.declared.Pin.{Pin}
use Rattle.pin.specs.PinBlock.{pin_fits, nibbles, pin_block, well_formed, pin_of}

-- a PIN in twelve places, zeros in the unused ones, and its count
unfoldable pub found : List ℕ → Pin
found pin = record { digits = pin ++ replicate (12 - length pin) 0; count = length pin }

-- the digits of a PIN that was read
unfoldable pub digits_of : Pin → List ℕ
digits_of p = take p.count p.digits

-- 01, refusal 12: not 4 to 12 digits
unfoldable pub write_pin : List ℕ → Result (List ℕ) Refusal
write_pin pin = cond (pin_fits 0 (length pin) pin) (Ok (pin_block pin)) (Err PinDigits)

-- 01, refusal 9: the format is wrong; 1: a block is 8 bytes
unfoldable pub read_block : List ℕ → Result Pin Refusal
read_block b = cond (well_formed (nibbles b)) (Ok (found (pin_of (nibbles b)))) (Err PinFormat)

unfoldable pub read_pin : List ℕ → Result Pin Refusal
read_pin b = cond (block_fits b) (read_block b) (Err Input)

-- 002, 4.2.1 and 4.2.2: under the key SK_SMC
unfoldable pub encipher_pin : List ℕ → List ℕ → Result (List ℕ) Refusal
encipher_pin key pin =
    cond (key_fits key) (cond (pin_fits 0 (length pin) pin) (Ok (encipher key (pin_block pin))) (Err PinDigits)) (Err Input)

unfoldable pub decipher_pin : List ℕ → List ℕ → Result Pin Refusal
decipher_pin key b = cond (key_fits key && block_fits b) (read_block (decipher key b)) (Err Input)
