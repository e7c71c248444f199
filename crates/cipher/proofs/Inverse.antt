-- A block enciphered and deciphered, and the other way round, is answered as it was, under every key of 32 octets. Assumes nothing.
use mathlib.Core.Path.{◌≡◌, sym, ap, ◌∙◌}
use Prim.Native.Nat.{ℕ}
use mathlib.Core.List.{List}
use lib.ListN.{length}
use Rattle.octets.specs.Numbers.{Octets}
use Rattle.gost.specs.Gost.{encipher, decipher}
use Rattle.gost.proofs.Inverse.{length-encipher, length-decipher, decipher-encipher, encipher-decipher}
use Rattle.std.specs.Prelude.{Ok}
use Rattle.cipher.specs.Answers.{enciphered, deciphered}
use Rattle.cipher.proofs.AnswerLaws.{fits}

module _ (b : List ℕ) (e : length b ≡ 8) (o : Octets b) where
  pub deciphered-enciphered : (key : List ℕ) → length key ≡ 32 → (x : List ℕ) × (enciphered key b ≡ Ok x) × (deciphered key x ≡ Ok b)
  unfolding deciphered enciphered
  deciphered-enciphered key k = (
    encipher key b,
    sym (fits key b (encipher key b) k e),
    sym (fits key (encipher key b) (decipher key (encipher key b)) k (length-encipher key b)) ∙ ap Ok (decipher-encipher b e o key),
  )

  pub enciphered-deciphered : (key : List ℕ) → length key ≡ 32 → (x : List ℕ) × (deciphered key b ≡ Ok x) × (enciphered key x ≡ Ok b)
  unfolding deciphered enciphered
  enciphered-deciphered key k = (
    decipher key b,
    sym (fits key b (decipher key b) k e),
    sym (fits key (decipher key b) (encipher key (decipher key b)) k (length-decipher key b)) ∙ ap Ok (encipher-decipher b e o key),
  )
