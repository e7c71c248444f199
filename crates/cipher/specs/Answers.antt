-- What the entry points answer, for every input: the octets, or refusal 1 of 01. Assumes nothing.
use Rattle.std.specs.Prelude.{ℕ, ◌%◌, Bool, ◌&&◌, not, cond, List, eqb, length, Result, Ok, Err}
use Rattle.octets.specs.Lengths.{key_fits}
use Rattle.gost.specs.Gost.{subkeys, encipher, decipher}
use Rattle.answers.specs.declared.Refusal.{Refusal}
use Rattle.answers.specs.declared.Refusal.TheVariants.{Input}
use Rattle.cipher.specs.Code.{code_of}

-- 01: a block is 8 bytes; "a string for the code" is one or more whole blocks, else 1
unfoldable pub block_fits : List ℕ → Bool
block_fits b = eqb (length b) 8

unfoldable pub string_fits : List ℕ → Bool
string_fits s = not (eqb (length s) 0) && eqb (length s % 8) 0

-- the octets x where key and block have their lengths, else refusal 1
unfoldable pub block_answer : List ℕ → List ℕ → List ℕ → Result (List ℕ) Refusal
block_answer key b x = cond (key_fits key && block_fits b) (Ok x) (Err Input)

unfoldable pub enciphered : List ℕ → List ℕ → Result (List ℕ) Refusal
enciphered key b = block_answer key b (encipher key b)

unfoldable pub deciphered : List ℕ → List ℕ → Result (List ℕ) Refusal
deciphered key b = block_answer key b (decipher key b)

-- the code of a string under the subkeys of a key, and under a key
unfoldable pub coded_with : List ℕ → List ℕ → Result (List ℕ) Refusal
coded_with ks s = cond (string_fits s) (Ok (code_of ks s)) (Err Input)

unfoldable pub coded : List ℕ → List ℕ → Result (List ℕ) Refusal
coded key s = cond (key_fits key) (coded_with (subkeys 8 key) s) (Err Input)
