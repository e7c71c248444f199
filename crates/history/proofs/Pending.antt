-- A box that compares the pending PIN: demand 3 is false of it. Assumes nothing.
use Prim.Native.Nat.{ℕ}
use native.Mathlib.Omega.{arith}
use mathlib.Core.Path.{◌≡◌, refl, sym, ap, ◌∙◌}
use mathlib.Core.List.{List, [], ◌∷◌}
use mathlib.Core.Bool.{Bool, true, false, not, cond}
use lib.Dec.{eqb}
use lib.ListN.{length}
use borrow.Author.Tests.{eq-eqb}
use Rattle.std.specs.Prelude.{Result, Ok, is_ok, is_err}
use Rattle.answers.specs.declared.Refusal.{Refusal}
use Rattle.answers.specs.declared.Refusal.TheVariants.{Input, PhaseWrong, CounterFull, PinFormat, WrongPin, NoTries}
use Rattle.octets.specs.Numbers.{be, le}
use Rattle.octets.specs.Same.{same}
use Rattle.octets.specs.Digits.{digits}
use Rattle.shapes.specs.declared.command.Command.TheVariants.{SetPin}
use Rattle.shapes.specs.Command.{header_of}
use Rattle.shapes.proofs.CommandLaws.{length-is}
use Rattle.gost.specs.Gost.{encipher}
use Rattle.gost.proofs.Inverse.{length-encipher}
use Rattle.derive.proofs.Laws.{length-derived}
use Rattle.pin.specs.declared.Pin.{Pin}
use Rattle.pin.specs.PinBlock.{pin_fits, nibbles, pin_block, well_formed, pin_of}
use Rattle.pin.specs.CounterBlock.{counters_of}
use Rattle.pin.specs.Answers.{found, read_block, encipher_pin, decipher_pin}
use Rattle.pin.proofs.AnswerLaws.{encipher-is}
use Rattle.pin.proofs.Inverse.{deciphered-enciphered}
use Rattle.transaction.specs.Transaction.{is_open}
use Rattle.card.specs.declared.Card.{Card}
use Rattle.card.specs.declared.Reply.{Reply}
use Rattle.card.specs.Record.{sound, kept, with_transaction, with_kept}
use Rattle.card.specs.Keys.{smc_key}
use Rattle.card.specs.Calls.{Call, Open, Script, CheckPin, strikes, first_struck, accept, is_kept, judged, judged_under, new_pin, orders, pend, pend_all, settled, after_by, after_under, due_under, plain, step}
use Rattle.history.specs.Run.{boxed}
use Rattle.history.specs.Demand2.{block_read}
use Rattle.history.specs.Demands.{Demand3}
use Rattle.history.proofs.Boxes.{as_pending, compares_pending}
use Rattle.history.proofs.Change.{same_block, by, step_by, change}
use Rattle.history.proofs.Does.{wrapped_for, takes_it}
use Rattle.history.proofs.Keeps.{keeps}
use Rattle.history.proofs.Useless.{opened_card, as_opened, opened_sound, opened_open, opened_free, some_data, must_show}

-- the kept PIN of the first record, and another
abbrev kept_pin : List ℕ
kept_pin = 1 ∷ 2 ∷ 3 ∷ 4 ∷ []

abbrev new_pin_lem : List ℕ
new_pin_lem = 5 ∷ 6 ∷ 7 ∷ 8 ∷ []

-- a PIN enciphered under the SMC key of a transaction reads as it was
length-smc : (r : Card) → length (smc_key r) ≡ 32
unfolding smc_key
length-smc r = length-derived _ _ _

abbrev block_of : Card → List ℕ → List ℕ
block_of r pin = encipher (smc_key r) (pin_block pin)

module _ (r : Card) (pin : List ℕ) (f : pin_fits 0 (length pin) pin ≡ true) where
  enciphers : encipher_pin (smc_key r) pin ≡ Ok (block_of r pin)
  enciphers = encipher-is (smc_key r) pin (length-smc r) f

  reads_back : decipher_pin (smc_key r) (block_of r pin) ≡ Ok (found pin)
  reads_back = deciphered-enciphered (smc_key r) pin (block_of r pin) enciphers

  eight : length (block_of r pin) ≡ 8
  eight = length-encipher (smc_key r) (pin_block pin)

fits_new : pin_fits 0 4 new_pin_lem ≡ true
unfolding pin_fits digits
fits_new = refl

fits_kept : pin_fits 0 4 kept_pin ≡ true
unfolding pin_fits digits
fits_kept = refl

-- the command that changes the PIN is accepted, and the new PIN is pending
abbrev changing : Card → List ℕ
changing r = wrapped_for r SetPin (block_of r new_pin_lem)

changes_it : (r : Card) → sound r ≡ true → is_open r.transaction.phase ≡ true → (r.counters.failures ≡ 65535 → ⊥)
    → step r (Script (header_of SetPin) (changing r)) ≡ plain (with_transaction r (pend (new_pin (found new_pin_lem).digits (found new_pin_lem).count) r.transaction)) 0
unfolding found
changes_it r s o f =
    let e : block_read r (block_of r new_pin_lem) ≡ Ok (found new_pin_lem) = sym (same_block r (block_of r new_pin_lem)) ∙ reads_back r new_pin_lem fits_new in
    takes_it r SetPin (block_of r new_pin_lem) (eight r new_pin_lem fits_new ∙ sym length-is.0) s o f (λ z. ap is_ok e)
    ∙ ap (λ (x : Result Pin Refusal). plain (with_transaction r (pend_all (orders (Ok SetPin) x) r.transaction)) 0) e

abbrev change_call : Call
change_call = Script (header_of SetPin) (changing opened_card)

abbrev changed_card : Card
changed_card = (step opened_card change_call).card

as_changed : changed_card ≡ with_transaction opened_card (pend (new_pin (found new_pin_lem).digits (found new_pin_lem).count) opened_card.transaction)
as_changed = ap (λ (a : Reply). a.card) (changes_it opened_card opened_sound opened_open opened_free)

changed_sound : sound changed_card ≡ true
changed_sound = keeps opened_sound (change opened_card opened_sound change_call)

changed_open : is_open changed_card.transaction.phase ≡ true
changed_open = ap (λ (r : Card). is_open r.transaction.phase) as_changed ∙ opened_open

changed_tries : changed_card.tries ≡ 2
changed_tries = ap (λ (r : Card). r.tries) as_changed ∙ ap (λ (a : Reply). a.card.tries) as_opened

changed_counter : changed_card.counters.decipherments ≡ 0
unfolding counters_of be le
changed_counter = ap (λ (r : Card). r.counters.decipherments) as_changed ∙ ap (λ (a : Reply). a.card.counters.decipherments) as_opened

abbrev the_block : List ℕ
the_block = block_of changed_card kept_pin

the_pin : decipher_pin (smc_key changed_card) the_block ≡ Ok (found kept_pin)
the_pin = reads_back changed_card kept_pin fits_kept

-- ours finds the kept PIN, and restores three
is_kept_lem : is_kept changed_card (Ok (found kept_pin)) ≡ true
unfolding found same read_block well_formed nibbles pin_of pin_fits digits
is_kept_lem = ap (λ (r : Card). is_kept r (Ok (found kept_pin))) as_changed ∙ ap (λ (a : Reply). is_kept a.card (Ok (found kept_pin))) as_opened

all_pass : (r : Card) (b : List ℕ) (p : Pin) → is_open r.transaction.phase ≡ true → length b ≡ 8 → eqb r.tries 0 ≡ false → eqb r.counters.decipherments 65535 ≡ false
    → decipher_pin (smc_key r) b ≡ Ok p → is_kept r (Ok p) ≡ true → judged r (CheckPin b) ≡ accept
unfolding judged_under
all_pass r b p o l t d e k = rw (o, eq-eqb _ _ l, t, d, e, k)

ours_restores : (step changed_card (CheckPin the_block)).card.tries ≡ 3
unfolding found
ours_restores =
    let v : judged changed_card (CheckPin the_block) ≡ accept =
    all_pass changed_card the_block (found kept_pin) changed_open (eight changed_card kept_pin fits_kept)
    (ap (λ (n : ℕ). eqb n 0) changed_tries) (ap (λ (n : ℕ). eqb n 65535) changed_counter) the_pin is_kept_lem
    in
    ap (λ (a : Reply). a.card.tries) (step_by changed_card changed_sound (CheckPin the_block) ∙ ap (by changed_card (CheckPin the_block)) v)

-- a PIN that is not the kept one restores nothing
unkept : (r : Card) (b : List ℕ) → r.tries ≡ 2 → is_kept r (decipher_pin (smc_key r) b) ≡ false → (step r (CheckPin b)).card.tries ≡ 3 → ⊥
unfolding judged_under due_under after_under
unkept r b h k e =
    go (sound r) (not (is_open r.transaction.phase)) (not (eqb (length b) 8)) (eqb r.tries 0) (eqb r.counters.decipherments 65535)
    (is_err (decipher_pin (smc_key r) b)) (rw k at e)
  where
    go : (s o l t f p : Bool)
        → (cond s (after_by r (CheckPin b) (first_struck (strikes o PhaseWrong ∷ strikes l Input ∷ strikes t NoTries ∷ strikes f CounterFull ∷ strikes p PinFormat ∷ strikes true WrongPin ∷ []))) r).tries ≡ 3 → ⊥
    go false o l t f p z = absurd (omega arith)
    go true true l t f p z = absurd (omega arith)
    go true false true t f p z = absurd (omega arith)
    go true false false true f p z = absurd (omega arith)
    go true false false false true p z = absurd (omega arith)
    go true false false false false true z = absurd (omega arith)
    go true false false false false false z = absurd (omega arith)

not_kept : is_kept (as_pending changed_card) (decipher_pin (smc_key (as_pending changed_card)) the_block) ≡ false
unfolding smc_key settled found same
not_kept =
    ap (is_kept (as_pending changed_card)) the_pin
    ∙ ap (λ (r : Card). is_kept (as_pending r) (Ok (found kept_pin))) as_changed

pub compares_pending_lem : Demand3 (boxed compares_pending) → ⊥
compares_pending_lem law =
    let e : with_kept (step (as_pending changed_card) (CheckPin the_block)).card (kept changed_card) ≡ (step changed_card (CheckPin the_block)).card =
    must_show compares_pending (Open some_data ∷ change_call ∷ CheckPin the_block ∷ []) law
    in
    unkept (as_pending changed_card) the_block changed_tries not_kept (ap (λ (r : Card). r.tries) e ∙ ours_restores)
