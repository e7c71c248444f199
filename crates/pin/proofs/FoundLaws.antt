-- A PIN that was read is a PIN in twelve places, zeros in the unused ones: what a record of it may hold. Assumes nothing.
use mathlib.Core.Path.{◌≡◌, subst}
use mathlib.Core.Bool.{Bool, true, ◌&&◌, cond, false}
use mathlib.Core.List.{List}
use Prim.Native.Nat.{ℕ, ◌-◌}
use borrow.Author.Tests.{le-leb}
use lib.ListN.{length, get_or, drop}
use Rattle.std.specs.Prelude.{Result, Ok, Err}
use Rattle.answers.specs.declared.Refusal.{Refusal}
use Rattle.answers.specs.declared.Refusal.TheVariants.{Input}
use Rattle.octets.proofs.DigitLaws.{digits_refilled}
use Rattle.octets.specs.Lengths.{key_fits}
use Rattle.gost.specs.Gost.{decipher}
use Rattle.cipher.specs.Answers.{block_fits}
use Rattle.pin.specs.declared.Pin.{Pin}
use Rattle.pin.specs.PinBlock.{pin_fits, nibbles, well_formed, pin_of}
use Rattle.pin.specs.Answers.{found, read_block, decipher_pin}
use Rattle.pin.proofs.BlockLaws.{formed}
use Rattle.pin.proofs.AnswerLaws.{length-pin_of}
use Rattle.pin.proofs.Inverse.{format_accepted}

found_fits : (h : List ℕ) → well_formed h ≡ true → pin_fits 0 (found (pin_of h)).count (found (pin_of h)).digits ≡ true
unfolding found pin_fits pin_of
found_fits h g =
    let f = formed h g in
    let n = get_or h 1 0 in
    let l : length (pin_of h) ≡ n = length-pin_of h f in
    rw l (simp (le-leb _ _ f.pin.least, le-leb _ _ f.pin.most, digits_refilled 15 0 n (12 - n) (drop 2 h) f.pin.all))

pub read_fits : (b : List ℕ) (p : Pin) → read_block b ≡ Ok p → pin_fits 0 p.count p.digits ≡ true
read_fits b p h = let g = format_accepted b p h in subst (λ (x : Pin). pin_fits 0 x.count x.digits ≡ true) g.1 (found_fits (nibbles b) g.0)

pub deciphered-fits : (key b : List ℕ) (p : Pin) → decipher_pin key b ≡ Ok p → pin_fits 0 p.count p.digits ≡ true
unfolding decipher_pin
deciphered-fits key b p = go (key_fits key && block_fits b)
  where
    go : (t : Bool) → cond {A = Result Pin Refusal} t (read_block (decipher key b)) (Err Input) ≡ Ok p → pin_fits 0 p.count p.digits ≡ true
    go true e = read_fits (decipher key b) p e
    go false e = absurd cc
