-- What the desk wraps the card accepts, and the order is pending. Assumes nothing.
use Prim.Native.Nat.{ℕ, ◌+◌, ◌-◌, ◌≤◌}
use native.Mathlib.Omega.{arith}
use mathlib.Core.Path.{◌≡◌, refl, sym, ap, ap₂, ◌∙◌}
use mathlib.Core.Bool.{Bool, true, false, cond}
use mathlib.Core.List.{List, ◌++◌}
use lib.Dec.{eqb, leb}
use lib.ListN.{length, take, drop, replicate, length-append}
use lib.Seq.{take_at, take-take}
use borrow.Author.Tests.{eqb-false, leb-true}
use Rattle.answers.specs.declared.Refusal.TheVariants.{Input, CardNumber, NoRoom, PinDigits, UnknownCard}
use Rattle.std.specs.Prelude.{Result, Ok, Err, is_ok}
use Rattle.answers.specs.declared.Refusal.{Refusal}
use Rattle.octets.specs.Laid.{laid}
use Rattle.octets.proofs.LaidLaws.{length-laid, laid_there, laid_laid}
use Rattle.gost.specs.Gost.{encipher}
use Rattle.gost.proofs.Inverse.{length-encipher}
use Rattle.derive.specs.Derivation.{derived, card_label}
use Rattle.derive.proofs.Laws.{length-derived}
use Rattle.keys.specs.CardNumber.{card_fits}
use Rattle.pin.specs.declared.Pin.{Pin}
use Rattle.pin.specs.PinBlock.{pin_fits, pin_block}
use Rattle.pin.specs.Answers.{decipher_pin}
use Rattle.pin.proofs.AnswerLaws.{encipher-is}
use Rattle.pin.proofs.Inverse.{found_is, deciphered-enciphered}
use Rattle.shapes.specs.declared.command.Command.{Command}
use Rattle.shapes.specs.declared.command.Command.TheVariants.{SetPin, SetMark, ClearMark}
use Rattle.shapes.specs.Command.{header_of, tag_for, length_for}
use Rattle.shapes.proofs.LengthLaws.{place_short}
use Rattle.shapes.proofs.CommandLaws.{header_four, length-is, length-short}
use Rattle.message.specs.Code.{message}
use Rattle.message.specs.Answers.{Written}
use Rattle.message.proofs.Return.{message_size}
use Rattle.card.specs.declared.Card.{Card}
use Rattle.card.specs.Record.{with_transaction}
use Rattle.card.specs.Calls.{Script, new_pin, new_mark, orders, pend, pend_all, plain, step}
use Rattle.history.specs.Demand2.{block_read}
use Rattle.history.proofs.Does.{takes_it}
use Rattle.table.specs.Table.{held}
use Rattle.desk.specs.declared.Desk.{Desk}
use Rattle.desk.specs.Desk.{id_of, master_key}
use Rattle.desk.specs.Wrap.{ordered, script_of, pin_good, carried, script, unwritten, writes, wraps_command, wraps_order, wraps_listed, wraps}
use Rattle.meeting.specs.Meeting.{Named, size_for, order_for, WrapAccepted}
use Rattle.meeting.proofs.Apart.{Own, own}

-- two strings laid one after the other stand there, each at its place
module _ (b : List ℕ) (p : ℕ) (s t : List ℕ) (h : p + length (s ++ t) ≤ length b) where
  first_there : take (length s) (drop p (laid b p (s ++ t))) ≡ s
  first_there =
      let n = length-append s t in
      sym (take-take (length s) (length (s ++ t)) (drop p (laid b p (s ++ t))) (omega arith))
      ∙ ap (take (length s)) (laid_there b p (s ++ t) h)
      ∙ take_at s t (length s) refl

  second_there : take (length t) (drop (p + length s) (laid b p (s ++ t))) ≡ t
  second_there =
      let n = length-append s t in
      let k : p + length s ≤ length b = omega arith in
      ap (λ (x : List ℕ). take (length t) (drop (p + length s) x)) (sym (laid_laid b p s k t (p + length s) refl))
      ∙ laid_there (laid b p s) (p + length s) t (omega (arith, length-laid b p s k))

module _ (d : Desk) (pan : List ℕ) (q : ℕ) (g pin b : List ℕ) (place : ℕ) where
  -- the card's keys for scripts, the data of a command, its message, and the answer
  abbrev smi : List ℕ
  smi = script_of d.packed d.smi pan q g

  abbrev smc : List ℕ
  smc = script_of d.packed d.smc pan q g

  abbrev data_of : Command → List ℕ
  data_of c = carried c smc pin

  abbrev message_of : Command → List ℕ
  message_of c = message smi (header_of c) (tag_for c) (data_of c)

  abbrev wrote : Result Command Refusal → Written
  wrote l = wraps_listed d pan q l g pin b place

  -- what an answer of 0 says: w is the answer
  record Wrote (c : Command) (w : Written) : Type 0 where
    good : pin_good c pin ≡ true
    room : place + length (header_of c ++ message_of c) ≤ length b
    buffer : w.buffer ≡ laid b place (header_of c ++ message_of c)

  wrote_so : (c : Command) → (wrote (Ok c)).code ≡ 0 → Wrote c (wrote (Ok c))
  unfolding wraps_order wraps_command writes script
  wrote_so c = go (eqb (length g) 8) (card_fits pan q) (held (id_of pan q) d.places) (pin_good c pin) refl (leb (place + length (header_of c ++ message_of c)) (length b)) refl
    where
      answer : Bool → Bool → Bool → Bool → Bool → Written
      answer l f h p x =
          cond l
          (cond f (cond h (cond p (cond x (record { code = 0; buffer = laid b place (header_of c ++ message_of c) }) (unwritten b NoRoom)) (unwritten b PinDigits)) (unwritten b UnknownCard)) (unwritten b CardNumber))
          (unwritten b Input)

      go : (l f h p : Bool) → pin_good c pin ≡ p → (x : Bool) → leb (place + length (header_of c ++ message_of c)) (length b) ≡ x → (answer l f h p x).code ≡ 0 → Wrote c (answer l f h p x)
      go false f h p ep x ex z = absurd (eqb-false 1 0 refl z)
      go true false h p ep x ex z = absurd (eqb-false 2 0 refl z)
      go true true false p ep x ex z = absurd (eqb-false 19 0 refl z)
      go true true true false ep x ex z = absurd (eqb-false 12 0 refl z)
      go true true true true ep false ex z = absurd (eqb-false 3 0 refl z)
      go true true true true ep true ex z = record { good = ep; room = leb-true _ _ ex; buffer = refl }

  module _ (r : Card) (k : Own d pan q r) (n : Named r g) where
    key_is : (issuer x : List ℕ) → x ≡ master_key d.packed issuer pan q → script_of d.packed issuer pan q g ≡ derived x card_label r.transaction.cryptogram
    unfolding script_of
    key_is issuer x e = ap₂ (λ (y z : List ℕ). derived y card_label z) (sym e) (sym n.cryptogram)

    -- the PIN is read back
    pin_read : pin_fits 0 (length pin) pin ≡ true → block_read r (encipher smc (pin_block pin)) ≡ Ok (record { digits = pin ++ replicate (12 - length pin) 0; count = length pin })
    pin_read f =
        let key = derived r.smc card_label r.transaction.cryptogram in
        let e = encipher-is key pin (length-derived _ _ _) f in
        ap (λ (x : List ℕ). decipher_pin key (encipher x (pin_block pin))) (key_is d.smc r.smc k.smc)
        ∙ deciphered-enciphered key pin (encipher key (pin_block pin)) e
        ∙ ap Ok (found_is pin)

    -- what was written, cut into header and message, is taken
    taken : (c : Command) (m : ℕ) → Wrote c (wrote (Ok c)) → length (data_of c) ≡ length_for c → length_for c + 8 ≡ m → (c ≡ SetPin → is_ok (block_read r (data_of c)) ≡ true)
        → step r (Script (take 4 (drop place (wrote (Ok c)).buffer)) (take m (drop (place + 4) (wrote (Ok c)).buffer)))
        ≡ plain (with_transaction r (pend_all (orders (Ok c) (block_read r (data_of c))) r.transaction)) 0
    taken c m w l e p =
        let s = (length-short c).0 in
        let z : length (message_of c) ≡ m = message_size smi (header_of c) (tag_for c) (data_of c) ∙ omega (arith, place_short (length (data_of c)) (omega arith)) in
        let h : take 4 (drop place (wrote (Ok c)).buffer) ≡ header_of c =
        ap₂ (λ (x : ℕ) (y : List ℕ). take x (drop place y)) (sym (header_four c)) w.buffer ∙ first_there b place (header_of c) (message_of c) w.room
        in
        let t : take m (drop (place + 4) (wrote (Ok c)).buffer) ≡ message_of c =
        ap₂ (λ (x : ℕ) (y : List ℕ). take m (drop (place + x) y)) (sym (header_four c)) w.buffer
        ∙ ap (λ (x : ℕ). take x (drop (place + length (header_of c)) (laid b place (header_of c ++ message_of c)))) (sym z)
        ∙ second_there b place (header_of c) (message_of c) w.room
        in
        ap₂ (λ (x y : List ℕ). step r (Script x y)) h (t ∙ ap (λ (x : List ℕ). message x (header_of c) (tag_for c) (data_of c)) (key_is d.smi r.smi k.smi))
        ∙ takes_it r c (data_of c) l n.is_sound n.is_open n.room p

pub wrap_accepted : WrapAccepted
unfolding wraps ordered pin_good carried size_for order_for
wrap_accepted d pan q i g pin b place r e ks n = go (eqb i 0x24) (eqb i 0x1e) (eqb i 0x18) e
  where
    k : Own d pan q r
    k = own d pan q r ks

    asked : Bool → Bool → Bool → Written
    asked x y z = wrote d pan q g pin b place (cond x (Ok SetPin) (cond y (Ok SetMark) (cond z (Ok ClearMark) (Err Input))))

    go : (x y z : Bool) → (asked x y z).code ≡ 0
        → step r (Script (take 4 (drop place (asked x y z).buffer)) (take (cond x 16 8) (drop (place + 4) (asked x y z).buffer)))
        ≡ plain (with_transaction r (pend (cond x (new_pin (pin ++ replicate (12 - length pin) 0) (length pin)) (new_mark y)) r.transaction)) 0
    go true y z e =
        let w = wrote_so d pan q g pin b place SetPin e in
        let f = pin_read d pan q g pin b place r k n w.good in
        taken d pan q g pin b place r k n SetPin 16 w (length-encipher _ _ ∙ sym length-is.0) (omega (arith, length-is.0)) (λ c. ap is_ok f)
        ∙ ap (λ (x : Result Pin Refusal). plain (with_transaction r (pend_all (orders (Ok SetPin) x) r.transaction)) 0) f
    go false true z e =
        taken d pan q g pin b place r k n SetMark 8 (wrote_so d pan q g pin b place SetMark e) (sym length-is.1) (omega (arith, length-is.1)) (λ c. cc)
    go false false true e =
        taken d pan q g pin b place r k n ClearMark 8 (wrote_so d pan q g pin b place ClearMark e) (sym length-is.2) (omega (arith, length-is.2)) (λ c. cc)
    go false false false e = absurd (eqb-false 1 0 refl e)
