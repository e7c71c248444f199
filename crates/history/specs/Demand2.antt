-- Demand 2: when a message is accepted. Its last sentence, the return laws, stands in the crate message. Assumes nothing.
use Rattle.std.specs.Prelude.{ℕ, ◌^◌, ◌<◌, ◌≡◌, true, false, ◌↔◌, List, length, Result, Ok, is_ok, is_err}
use Rattle.answers.specs.declared.Refusal.{Refusal}
use Rattle.octets.specs.Numbers.{Octets, le_octets}
use Rattle.shapes.specs.declared.command.Command.{Command}
use Rattle.shapes.specs.declared.command.Command.TheVariants.{SetPin}
use Rattle.shapes.specs.Shape.{length_of, tag_of, data_of, shape as hasShape}
use Rattle.shapes.specs.Command.{command_of}
use Rattle.derive.specs.Derivation.{derived, card_label}
use Rattle.pin.specs.declared.Pin.{Pin}
use Rattle.pin.specs.Answers.{decipher_pin}
use Rattle.message.specs.Code.{code_fits}
use Rattle.cryptogram.specs.declared.Kind.{Kind}
use Rattle.cryptogram.specs.Cryptogram.{twice, cryptogram_of}
use Rattle.transaction.specs.Transaction.{is_open}
use Rattle.card.specs.declared.Card.{Card}
use Rattle.card.specs.Record.{sound as isSound}
use Rattle.card.specs.Calls.{Script, CheckPin, step}

-- "A message is accepted exactly when the record is sound and its phase, header, shape, instruction, counter, code and PIN format all pass."
-- The eight checks; the code stands under the SMI key of the transaction's cryptogram, a PIN under its SMC key
pub record Accepts (r : Card) (h m : List ℕ) : Type 0 where
  pub sound : isSound r ≡ true
  pub phase : is_open r.transaction.phase ≡ true
  pub header : length h ≡ 4
  pub shape : hasShape m ≡ true
  pub command : Command
  pub instruction : command_of h (tag_of m) (length_of m) ≡ Ok command
  pub counter : r.counters.failures ≡ 65535 → ⊥
  pub code : code_fits (derived r.smi card_label r.transaction.cryptogram) h m ≡ true
  pub format : command ≡ SetPin → is_ok (decipher_pin (derived r.smc card_label r.transaction.cryptogram) (data_of m)) ≡ true

-- and it is refused with 8 exactly when all that is checked ahead of the code passes and the code does not, whatever PIN it carries
pub record Differs (r : Card) (h m : List ℕ) : Type 0 where
  pub sound : isSound r ≡ true
  pub phase : is_open r.transaction.phase ≡ true
  pub header : length h ≡ 4
  pub shape : hasShape m ≡ true
  pub command : Command
  pub instruction : command_of h (tag_of m) (length_of m) ≡ Ok command
  pub counter : r.counters.failures ≡ 65535 → ⊥
  pub code : code_fits (derived r.smi card_label r.transaction.cryptogram) h m ≡ false

abbrev pub DiffersExactly : Type 0
DiffersExactly = (r : Card) (h m : List ℕ) → ((step r (Script h m)).code ≡ 8) ↔ Differs r h m

-- Wish 4: when a PIN check is answered what, on every record: "order 6, 1, 15, 7 when that counter is 65535, 9, 14". The block stands under the SMC key of
-- the transaction's cryptogram, and the kept PIN is compared, its count and its digits
abbrev pub block_read : Card → List ℕ → Result Pin Refusal
block_read r b = decipher_pin (derived r.smc card_label r.transaction.cryptogram) b

pub record Presented (r : Card) (b : List ℕ) : Type 0 where
  pub sound : isSound r ≡ true
  pub phase : is_open r.transaction.phase ≡ true
  pub eight : length b ≡ 8

pub record Tried (r : Card) (b : List ℕ) : Type 0 where
  pub presented : Presented r b
  pub tries : r.tries ≡ 0 → ⊥
  pub counter : r.counters.decipherments ≡ 65535 → ⊥

pub record Checked (r : Card) (b : List ℕ) : Type 0 where
  pub unsound : isSound r ≡ false → (step r (CheckPin b)).code ≡ 1
  pub idle : isSound r ≡ true → is_open r.transaction.phase ≡ false → (step r (CheckPin b)).code ≡ 6
  pub other_length : isSound r ≡ true → is_open r.transaction.phase ≡ true → (length b ≡ 8 → ⊥) → (step r (CheckPin b)).code ≡ 1
  pub no_tries : Presented r b → r.tries ≡ 0 → (step r (CheckPin b)).code ≡ 15
  pub full : Presented r b → (r.tries ≡ 0 → ⊥) → r.counters.decipherments ≡ 65535 → (step r (CheckPin b)).code ≡ 7
  pub misread : Tried r b → is_err (block_read r b) ≡ true → (step r (CheckPin b)).code ≡ 9
  pub wrong_count : (p : Pin) → Tried r b → block_read r b ≡ Ok p → (p.count ≡ r.count → ⊥) → (step r (CheckPin b)).code ≡ 14
  pub wrong_digits : (p : Pin) → Tried r b → block_read r b ≡ Ok p → (p.digits ≡ r.pin → ⊥) → (step r (CheckPin b)).code ≡ 14
  pub right : (p : Pin) → Tried r b → block_read r b ≡ Ok p → p.count ≡ r.count → p.digits ≡ r.pin → (step r (CheckPin b)).code ≡ 0

abbrev pub ChecksExactly : Type 0
ChecksExactly = (r : Card) (b : List ℕ) → Checked r b

-- "Keys, cryptograms, PIN blocks, counter blocks and script messages are those of R 1323565.1.008, 009 and 010 as 01 reads them.": of the crates
-- below each contract says so, of the card what an accepted call gives. That a constant cryptogram is none of them rests on this: under every session
-- key, for every kind and counter, any four bytes written twice are the cryptogram of some data
pub record Reached (ks : List ℕ) (kind : Kind) (atc w : ℕ) : Type 0 where
  pub its_data : List ℕ
  pub octets : Octets its_data
  pub data_length_lem : length its_data ≡ 65
  pub gives : cryptogram_of ks kind atc its_data ≡ twice (le_octets 4 w)

abbrev pub CryptogramOnto : Type 0
CryptogramOnto = (ks : List ℕ) (kind : Kind) (atc w : ℕ) → w < 2 ^ 32 → Reached ks kind atc w
