-- A PIN that was written is read back, and a block that was read is written back, clear and enciphered. Assumes nothing.
use mathlib.Core.Path.{◌≡◌, refl, sym, ap, ap₂, ◌∙◌, subst}
use mathlib.Core.Bool.{Bool, true, false, ◌&&◌, cond, and-eq-true_iff}
use mathlib.Core.List.{List, ◌∷◌, ◌++◌, append-nil}
use Prim.Native.Nat.{ℕ, ◌+◌, ◌-◌}
use native.Mathlib.Omega.{arith}
use borrow.Author.Tests.{eq-eqb, eqb-true, le-leb}
use lib.Dec.{eqb}
use lib.ListN.{length, get_or, take, drop, replicate, length-append, length-replicate, length-drop}
use lib.Seq.{take_at, take-length}
use Rattle.octets.specs.Numbers.{Octets}
use Rattle.octets.specs.Digits.{digits, pairs}
use Rattle.octets.proofs.DigitLaws.{digits_filled, digits_refilled}
use Rattle.octets.proofs.Parts.{elements_all}
use Rattle.octets.specs.Lengths.{key_fits}
use Rattle.gost.specs.Gost.{encipher, decipher}
use Rattle.gost.proofs.Inverse.{length-encipher, length-decipher, decipher-encipher, encipher-decipher}
use Rattle.cipher.specs.Answers.{block_fits}
use Rattle.std.specs.Prelude.{Result, Ok, Err}
use Rattle.answers.specs.declared.Refusal.{Refusal}
use Rattle.answers.specs.declared.Refusal.TheVariants.{Input, PinFormat, PinDigits}
use Rattle.pin.specs.declared.Pin.{Pin}
use Rattle.pin.specs.PinBlock.{pin_fits, nibbles, fields, pin_block, well_formed, pin_of}
use Rattle.pin.specs.Answers.{found, digits_of, write_pin, read_block, read_pin, encipher_pin, decipher_pin}
use Rattle.pin.proofs.BlockLaws.{Fits, fits, formed, small_fields, length_fields, halves_pairs, octets-pairs, pairs-halves}
use Rattle.pin.proofs.AnswerLaws.{length-pin_block, length-pin_of, read_block_lem}

-- ---- what an accepted call says

accepted : {A : Type 0} (t : Bool) (x : Result A Refusal) (y : A) (q : Refusal) → cond {A = Result A Refusal} t x (Err q) ≡ Ok y → (t ≡ true) × (x ≡ Ok y)
accepted true x y q e = (refl, e)
accepted false x y q e = absurd cc

same_ok : {A : Type 0} {x y : A} → ◌≡◌ {A = Result A Refusal} (Ok x) (Ok y) → x ≡ y
same_ok e = cc

by_fits : (f n : ℕ) (s : List ℕ) → Fits f n s → pin_fits f n s ≡ true
unfolding pin_fits
by_fits f n s h = simp (le-leb _ _ h.least, le-leb _ _ h.most, h.all)

write_accepted : (pin x : List ℕ) → write_pin pin ≡ Ok x → (pin_fits 0 (length pin) pin ≡ true) × (pin_block pin ≡ x)
unfolding write_pin
write_accepted pin x h = let a = accepted (pin_fits 0 (length pin) pin) (Ok (pin_block pin)) x PinDigits h in (a.0, same_ok a.1)

pub format_accepted : (b : List ℕ) (p : Pin) → read_block b ≡ Ok p → (well_formed (nibbles b) ≡ true) × (found (pin_of (nibbles b)) ≡ p)
unfolding read_block
format_accepted b p h = let a = accepted (well_formed (nibbles b)) (Ok (found (pin_of (nibbles b)))) p PinFormat h in (a.0, same_ok a.1)

-- ---- clear blocks

module _ (pin : List ℕ) (f : Fits 0 (length pin) pin) where
  fields_formed : well_formed (fields pin) ≡ true
  unfolding well_formed fields
  fields_formed =
      by_fits 15 (length pin) (pin ++ replicate (14 - length pin) 15)
      (record {
        least = f.least;
        most = f.most;
        all = subst (λ (s : List ℕ). digits 15 (length pin) (s ++ replicate (14 - length pin) 15) ≡ true) (take-length pin) (digits_refilled 0 15 (length pin) (14 - length pin) pin f.all);
      })

  pin_fields : pin_of (fields pin) ≡ pin
  unfolding pin_of fields
  pin_fields = take_at pin (replicate (14 - length pin) 15) (length pin) refl

  pub octets-pin_block : Octets (pin_block pin)
  unfolding pin_block
  octets-pin_block = octets-pairs (fields pin) (small_fields pin f)

  pub block_read : read_block (pin_block pin) ≡ Ok (found pin)
  unfolding read_block pin_block
  block_read =
      ap (λ (h : List ℕ). cond {A = Result Pin Refusal} (well_formed h) (Ok (found (pin_of h))) (Err PinFormat)) (halves_pairs (fields pin) 8 (length_fields pin f.most) (small_fields pin f))
      ∙ ap (λ (t : Bool). cond {A = Result Pin Refusal} t (Ok (found (pin_of (fields pin)))) (Err PinFormat)) fields_formed
      ∙ ap (λ (s : List ℕ). Ok (found s)) pin_fields

-- a PIN that was found: its twelve places and its count, and its digits
pub found_is : (pin : List ℕ) → found pin ≡ record { digits = pin ++ replicate (12 - length pin) 0; count = length pin }
unfolding found
found_is pin = refl

pub digits_found : (pin : List ℕ) → digits_of (found pin) ≡ pin
unfolding digits_of found
digits_found pin = take_at pin (replicate (12 - length pin) 0) (length pin) refl

length-halves : (b : List ℕ) → length b ≡ 8 → length (nibbles b) ≡ 16
unfolding nibbles
length-halves b e = ap (λ (s : List ℕ). length (nibbles s)) (elements_all b 8 e)

module _ (b : List ℕ) (e : length b ≡ 8) (g : well_formed (nibbles b) ≡ true) where
  pin_fits_lem : pin_fits 0 (length (pin_of (nibbles b))) (pin_of (nibbles b)) ≡ true
  unfolding pin_of
  pin_fits_lem =
      let h = nibbles b in
      let n = get_or h 1 0 in
      let f = formed h g in
      subst (λ (k : ℕ). pin_fits 0 k (pin_of h) ≡ true) (sym (length-pin_of h f))
      (by_fits 0 n (pin_of h)
      (record {
        least = f.pin.least;
        most = f.pin.most;
        all = subst (λ (s : List ℕ). digits 0 n s ≡ true) (append-nil (take n (drop 2 h))) (digits_refilled 15 0 n 0 (drop 2 h) f.pin.all);
      }))

  pub block_written : pin_block (pin_of (nibbles b)) ≡ b
  unfolding pin_block fields pin_of
  block_written =
      let h = nibbles b in
      let n = get_or h 1 0 in
      let f = formed h g in
      let l : length h ≡ 16 = length-halves b e in
      let k : length (drop 2 h) ≡ length h - 2 = length-drop 2 h in
      let m : 14 ≡ length (drop 2 h) = omega arith in
      ap (λ (j : ℕ). pairs 16 (2 ∷ j ∷ (pin_of h ++ replicate (14 - j) 15))) (length-pin_of h f)
      ∙ ap (λ (j : ℕ). pairs 16 (2 ∷ n ∷ (take n (drop 2 h) ++ replicate (j - n) 15))) m
      ∙ ap₂ (λ (j : ℕ) (s : List ℕ). pairs 16 (j ∷ n ∷ s)) (sym f.control) (sym (digits_filled 15 n (drop 2 h) f.pin.all))
      ∙ ap (pairs 16) (ap (λ (s : List ℕ). get_or s 0 0 ∷ get_or s 1 0 ∷ drop 2 s) (elements_all h 16 l) ∙ sym (elements_all h 16 l))
      ∙ pairs-halves b

write_fits : (pin : List ℕ) → pin_fits 0 (length pin) pin ≡ true → write_pin pin ≡ Ok (pin_block pin)
unfolding write_pin
write_fits pin g = ap (λ (t : Bool). cond {A = Result (List ℕ) Refusal} t (Ok (pin_block pin)) (Err PinDigits)) g

-- what was written is read back: the digits and their count
pub read_written : (pin x : List ℕ) → write_pin pin ≡ Ok x → read_pin x ≡ Ok (found pin)
read_written pin x h =
    let a = write_accepted pin x h in
    let f = fits 0 (length pin) pin a.0 in
    sym (ap read_pin a.1) ∙ sym (read_block_lem (pin_block pin) (length-pin_block pin f)) ∙ block_read pin f

read_accepted : (b : List ℕ) (p : Pin) → read_pin b ≡ Ok p → (length b ≡ 8) × (read_block b ≡ Ok p)
unfolding read_pin block_fits
read_accepted b p h = let a = accepted (eqb (length b) 8) (read_block b) p Input h in (eqb-true _ _ a.0, a.1)

-- what was read is written back: the block
pub written_read : (b : List ℕ) (p : Pin) → read_pin b ≡ Ok p → write_pin (digits_of p) ≡ Ok b
written_read b p h =
    let a = read_accepted b p h in
    let g = format_accepted b p a.1 in
    sym (ap (λ (x : Pin). write_pin (digits_of x)) g.1)
    ∙ ap write_pin (digits_found (pin_of (nibbles b)))
    ∙ write_fits (pin_of (nibbles b)) (pin_fits_lem b a.0 g.0)
    ∙ ap Ok (block_written b a.0 g.0)

-- a PIN that was read has twelve places: its digits, 4 to 12 of them, and zeros
pub record Kept (p : Pin) : Type 0 where
  pub places : length p.digits ≡ 12
  pub fit : pin_fits 0 p.count p.digits ≡ true

found_kept : (pin : List ℕ) → Fits 0 (length pin) pin → Kept (found pin)
unfolding found
found_kept pin f =
    record {
      places = length-append pin (replicate (12 - length pin) 0) ∙ ap (λ (k : ℕ). length pin + k) (length-replicate (12 - length pin) 0) ∙ omega (arith, f.most);
      fit =
          by_fits 0 (length pin) (pin ++ replicate (12 - length pin) 0)
          (record {
            least = f.least;
            most = f.most;
            all = subst (λ (s : List ℕ). digits 0 (length pin) (s ++ replicate (12 - length pin) 0) ≡ true) (take-length pin) (digits_refilled 0 0 (length pin) (12 - length pin) pin f.all);
          });
    }

pub block_kept : (b : List ℕ) (p : Pin) → length b ≡ 8 → read_block b ≡ Ok p → Kept p
block_kept b p e h =
    let g = format_accepted b p h in
    subst Kept g.1 (found_kept (pin_of (nibbles b)) (fits 0 (length (pin_of (nibbles b))) (pin_of (nibbles b)) (pin_fits_lem b e g.0)))

-- ---- enciphered blocks

encipher-accepted : (key pin x : List ℕ) → encipher_pin key pin ≡ Ok x → (key_fits key ≡ true) × ((pin_fits 0 (length pin) pin ≡ true) × (encipher key (pin_block pin) ≡ x))
unfolding encipher_pin
encipher-accepted key pin x h =
    let t = pin_fits 0 (length pin) pin in
    let y = encipher key (pin_block pin) in
    let a = accepted (key_fits key) (cond {A = Result (List ℕ) Refusal} t (Ok y) (Err PinDigits)) x Input h in
    let b = accepted t (Ok y) x PinDigits a.1 in
    (a.0, (b.0, same_ok b.1))

encipher-fits : (key pin : List ℕ) → key_fits key ≡ true → pin_fits 0 (length pin) pin ≡ true → encipher_pin key pin ≡ Ok (encipher key (pin_block pin))
unfolding encipher_pin
encipher-fits key pin k g = simp (k, g)

decipher-fits : (key b : List ℕ) → key_fits key ≡ true → length b ≡ 8 → decipher_pin key b ≡ read_block (decipher key b)
unfolding decipher_pin block_fits
decipher-fits key b k e = simp (k, eq-eqb _ _ e)

pub deciphered-enciphered : (key pin x : List ℕ) → encipher_pin key pin ≡ Ok x → decipher_pin key x ≡ Ok (found pin)
deciphered-enciphered key pin x h =
    let a = encipher-accepted key pin x h in
    let f = fits 0 (length pin) pin a.1.0 in
    sym (ap (decipher_pin key) a.1.1)
    ∙ decipher-fits key (encipher key (pin_block pin)) a.0 (length-encipher key (pin_block pin))
    ∙ ap read_block (decipher-encipher (pin_block pin) (length-pin_block pin f) (octets-pin_block pin f) key)
    ∙ block_read pin f

decipher-accepted : (key b : List ℕ) (p : Pin) → decipher_pin key b ≡ Ok p → (key_fits key ≡ true) × ((length b ≡ 8) × (read_block (decipher key b) ≡ Ok p))
unfolding decipher_pin block_fits
decipher-accepted key b p h =
    let a = accepted (key_fits key && eqb (length b) 8) (read_block (decipher key b)) p Input h in
    let t = (and-eq-true_iff (key_fits key) (eqb (length b) 8)).0 a.0 in
    (t.0, (eqb-true _ _ t.1, a.1))

pub enciphered-deciphered : (key b : List ℕ) → Octets b → (p : Pin) → decipher_pin key b ≡ Ok p → encipher_pin key (digits_of p) ≡ Ok b
enciphered-deciphered key b o p h =
    let a = decipher-accepted key b p h in
    let e = a.1.0 in
    let d = decipher key b in
    let g = format_accepted d p a.1.1 in
    let l : length d ≡ 8 = length-decipher key b in
    sym (ap (λ (x : Pin). encipher_pin key (digits_of x)) g.1)
    ∙ ap (encipher_pin key) (digits_found (pin_of (nibbles d)))
    ∙ encipher-fits key (pin_of (nibbles d)) a.0 (pin_fits_lem d l g.0)
    ∙ ap (λ (s : List ℕ). Ok (encipher key s)) (block_written d l g.0)
    ∙ ap Ok (encipher-decipher b e o key)
