-- What the entry points answer, test by test. Assumes nothing.
use mathlib.Core.Path.{◌≡◌, sym, ap, ap₂, ◌∙◌}
use mathlib.Core.Bool.{Bool, true, false, ◌&&◌, not, cond}
use mathlib.Core.List.{List, ◌++◌}
use Prim.Native.Nat.{ℕ, ◌-◌}
use borrow.Author.Tests.{eq-eqb, ne_eqb, not-true, not-false}
use lib.ListN.{length, get_or, take, drop, replicate}
use lib.Seq.{length-take-le}
use Rattle.std.specs.Prelude.{Result, Ok, Err}
use Rattle.std.specs.Result.{IsErrAnd}
use Rattle.std.proofs.lemmas.Result.{err_from_is_err_and}
use Rattle.octets.proofs.DigitLaws.{digits_length}
use Rattle.octets.specs.Lengths.{key_fits}
use Rattle.octets.proofs.DigitLaws.{length_pairs}
use Rattle.gost.specs.Gost.{through, forth, subkeys, encipher, decipher}
use Rattle.answers.specs.declared.Refusal.{Refusal}
use Rattle.answers.specs.declared.Refusal.TheVariants.{Input, PinFormat, PinDigits}
use Rattle.cipher.specs.Answers.{block_fits, block_answer, deciphered}
use Rattle.pin.specs.declared.Pin.{Pin}
use Rattle.pin.specs.PinBlock.{pin_fits, nibbles, fields, pin_block, well_formed, pin_of}
use Rattle.pin.specs.Answers.{found, write_pin, read_block, read_pin, encipher_pin, decipher_pin}
use Rattle.pin.proofs.BlockLaws.{Fits, Formed, formed, length_fields}

-- what a `?` hands on
handed_on : {B : Type 0} (s : Result B Refusal) (q : Refusal) → IsErrAnd s (λ e. e ≡ q) → s ≡ Err q
handed_on s q h = let p = err_from_is_err_and s h in p.1 ∙ ap Err p.2

pub length-pin_block : (pin : List ℕ) → Fits 0 (length pin) pin → length (pin_block pin) ≡ 8
unfolding pin_block
length-pin_block pin f = length_pairs 16 (fields pin) 8 (length_fields pin f.most)

-- t is the test of the PIN to be written
module _ (pin : List ℕ) (t : Bool) (e : t ≡ pin_fits 0 (length pin) pin) where
  pub write_no_digits : not t ≡ true → Err PinDigits ≡ write_pin pin
  unfolding write_pin
  write_no_digits n = simp (sym e ∙ not-true t n)

  pub write_yes : not t ≡ false → Ok (pin_block pin) ≡ write_pin pin
  unfolding write_pin
  write_yes n = simp (sym e ∙ not-false t n)

  pub encipher_no_digits : (key : List ℕ) → length key ≡ 32 → not t ≡ true → Err PinDigits ≡ encipher_pin key pin
  unfolding encipher_pin key_fits
  encipher_no_digits key h n = simp (eq-eqb _ _ h, sym e ∙ not-true t n)

pub encipher_made : (x : List ℕ) {key k s y : List ℕ} → s ≡ subkeys 8 k → k ≡ key → y ≡ through (forth s) x → y ≡ encipher key x
unfolding encipher
encipher_made x e f g = g ∙ ap (λ (t : List ℕ). through (forth t) x) (e ∙ ap (subkeys 8) f)

-- r is what writing the PIN answers, enciphered or handed on
module _ (key pin : List ℕ) (h : length key ≡ 32) {r : Result (List ℕ) Refusal} (e : r ≡ write_pin pin) where
  pub encipher_refused : (q : Refusal) → r ≡ Err q → (s : Result (List ℕ) Refusal) → IsErrAnd s (λ x. x ≡ q) → s ≡ encipher_pin key pin
  unfolding encipher_pin write_pin key_fits
  encipher_refused q f s w = handed_on s q w ∙ go (pin_fits 0 (length pin) pin) (sym f ∙ e) ∙ sym (simp (eq-eqb _ _ h))
    where
      go : (t : Bool) → Err q ≡ cond {A = Result (List ℕ) Refusal} t (Ok (pin_block pin)) (Err PinDigits)
          → Err q ≡ cond {A = Result (List ℕ) Refusal} t (Ok (encipher key (pin_block pin))) (Err PinDigits)
      go true g = absurd cc
      go false g = g

  pub encipher_yes : (x : List ℕ) → r ≡ Ok x → Ok (encipher key x) ≡ encipher_pin key pin
  unfolding encipher_pin write_pin key_fits
  encipher_yes x f = go (pin_fits 0 (length pin) pin) (sym f ∙ e) ∙ sym (simp (eq-eqb _ _ h))
    where
      go : (t : Bool) → Ok x ≡ cond {A = Result (List ℕ) Refusal} t (Ok (pin_block pin)) (Err PinDigits)
          → Ok (encipher key x) ≡ cond {A = Result (List ℕ) Refusal} t (Ok (encipher key (pin_block pin))) (Err PinDigits)
      go true g = let p : x ≡ pin_block pin = cc in ap (λ (y : List ℕ). Ok (encipher key y)) p
      go false g = absurd cc

pub encipher_no_key : (key pin : List ℕ) → (length key ≡ 32 → ⊥) → Err Input ≡ encipher_pin key pin
unfolding encipher_pin key_fits
encipher_no_key key pin h = simp (ne_eqb _ _ h)

-- the length of a PIN that was read is the block's N
pub length-pin_of : (h : List ℕ) → Formed h → length (pin_of h) ≡ get_or h 1 0
unfolding pin_of
length-pin_of h f = length-take-le (get_or h 1 0) (drop 2 h) (digits_length 15 (get_or h 1 0) (drop 2 h) f.pin.all)

-- h are the half-bytes of a block b, t is their test
module _ (b h : List ℕ) (e : h ≡ nibbles b) (t : Bool) (w : t ≡ well_formed h) where
  pub block_formed : not t ≡ false → Formed h
  block_formed n = formed h (sym w ∙ not-false t n)

  pub read_no_format : not t ≡ true → Err PinFormat ≡ read_block b
  unfolding read_block
  read_no_format n = simp (← e, sym w ∙ not-true t n)

  pub read_yes : not t ≡ false → (p : List ℕ) → p ≡ take (get_or h 1 0) (drop 2 h) ++ replicate (12 - get_or h 1 0) 0
      → Ok (record { digits = p; count = get_or h 1 0 }) ≡ read_block b
  unfolding read_block found pin_of
  read_yes n p u =
      let l : length (pin_of h) ≡ get_or h 1 0 = length-pin_of h (block_formed n) in
      ap₂ {C = Result Pin Refusal} (λ (x : List ℕ) (k : ℕ). Ok (record { digits = x; count = k })) (u ∙ ap (λ (k : ℕ). pin_of h ++ replicate (12 - k) 0) (sym l)) (sym l)
      ∙ sym (simp (← e, sym w ∙ not-false t n))

module _ (b : List ℕ) where
  pub read_no_block : (length b ≡ 8 → ⊥) → Err Input ≡ read_pin b
  unfolding read_pin block_fits
  read_no_block h = simp (ne_eqb _ _ h)

  pub read_block_lem : length b ≡ 8 → read_block b ≡ read_pin b
  unfolding read_pin block_fits
  read_block_lem h = simp (eq-eqb _ _ h)

-- r is the cipher's answer, read or handed on
module _ (key b : List ℕ) {r : Result (List ℕ) Refusal} (e : r ≡ deciphered key b) where
  pub decipher_no : (q : Refusal) → r ≡ Err q → (s : Result Pin Refusal) → IsErrAnd s (λ x. x ≡ q) → s ≡ decipher_pin key b
  unfolding decipher_pin deciphered block_answer
  decipher_no q f s w = handed_on s q w ∙ go (key_fits key && block_fits b) (sym f ∙ e)
    where
      go : (t : Bool) → Err q ≡ cond {A = Result (List ℕ) Refusal} t (Ok (decipher key b)) (Err Input)
          → Err q ≡ cond {A = Result Pin Refusal} t (read_block (decipher key b)) (Err Input)
      go true g = absurd cc
      go false g = let p : q ≡ Input = cc in ap Err p

  pub decipher_yes : (x : List ℕ) → r ≡ Ok x → read_block x ≡ decipher_pin key b
  unfolding decipher_pin deciphered block_answer
  decipher_yes x f = go (key_fits key && block_fits b) (sym f ∙ e)
    where
      go : (t : Bool) → Ok x ≡ cond {A = Result (List ℕ) Refusal} t (Ok (decipher key b)) (Err Input)
          → read_block x ≡ cond {A = Result Pin Refusal} t (read_block (decipher key b)) (Err Input)
      go true g = let p : x ≡ decipher key b = cc in ap read_block p
      go false g = absurd cc

-- a PIN enciphered, where its digits are a PIN's and where they are not
module _ (key pin : List ℕ) (h : length key ≡ 32) where
  pub encipher-is : pin_fits 0 (length pin) pin ≡ true → encipher_pin key pin ≡ Ok (encipher key (pin_block pin))
  unfolding encipher_pin key_fits
  encipher-is f = simp (eq-eqb _ _ h, f)

  pub encipher_not : pin_fits 0 (length pin) pin ≡ false → encipher_pin key pin ≡ Err PinDigits
  unfolding encipher_pin key_fits
  encipher_not f = simp (eq-eqb _ _ h, f)
