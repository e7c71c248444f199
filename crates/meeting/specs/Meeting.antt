-- The desk and the soft card meet (Wish 7): what the desk wraps the card accepts, and does what was ordered; what the card answers to an Open the desk
-- accepts, and the card its ARPC. Assumes nothing.
use Rattle.std.specs.Prelude.{ℕ, ◌+◌, ◌-◌, ◌<◌, ◌≡◌, Bool, true, false, cond, List, ◌++◌, eqb, length, take, drop, replicate, Some, Result, Ok}
use Rattle.answers.specs.declared.Refusal.{Refusal}
use Rattle.std.proofs.lemmas.List.Edits.{sets}
use Rattle.octets.specs.Numbers.{be_octets}
use Rattle.transaction.specs.Transaction.{is_open}
use Rattle.card.specs.declared.Card.{Card}
use Rattle.card.specs.declared.Reply.{Reply}
use Rattle.card.specs.Record.{sound, with_transaction}
use Rattle.card.specs.Calls.{Open, IssuerAnswer, Script, Order, new_pin, new_mark, pend, plain, step}
use Rattle.keys.specs.CardNumber.{card_fits}
use Rattle.keys.specs.Answers.{card_key, card_key_packed}
use Rattle.table.specs.Table.{held, readings}
use Rattle.table.specs.Seen.{first}
use Rattle.desk.specs.declared.Desk.{Desk}
use Rattle.desk.specs.declared.Checked.{Checked}
use Rattle.desk.specs.Desk.{id_of}
use Rattle.desk.specs.Check.{checks}
use Rattle.desk.specs.Wrap.{wraps}

-- "if it has the keys of that card": the record has the card's master keys as the box derives them from the issuer's three of the desk, by pairs or packed
abbrev pub key_for : Bool → List ℕ → List ℕ → ℕ → Result (List ℕ) Refusal
key_for packed issuer pan q = cond packed (card_key_packed issuer pan q) (card_key issuer pan q)

pub record KeysOf (d : Desk) (pan : List ℕ) (q : ℕ) (r : Card) : Type 0 where
  pub fits : card_fits pan q ≡ true
  pub ac_long : length d.ac ≡ 32
  pub smi_long : length d.smi ≡ 32
  pub smc_long : length d.smc ≡ 32
  pub ac : key_for d.packed d.ac pan q ≡ Ok r.ac
  pub smi : key_for d.packed d.smi pan q ≡ Ok r.smi
  pub smc : key_for d.packed d.smc pan q ≡ Ok r.smc

-- "the transaction is open and its cryptogram is the one named"; the failure counter is not full
pub record Named (r : Card) (g : List ℕ) : Type 0 where
  pub is_sound : sound r ≡ true
  pub is_open : is_open r.transaction.phase ≡ true
  pub cryptogram : r.transaction.cryptogram ≡ g
  pub room : r.counters.failures ≡ 65535 → ⊥

-- the message's size, and what an instruction orders: a new PIN, in twelve places, or the mark set or cleared
unfoldable pub size_for : ℕ → ℕ
size_for i = cond (eqb i 0x24) 16 8

unfoldable pub order_for : ℕ → List ℕ → Order
order_for i pin = cond (eqb i 0x24) (new_pin (pin ++ replicate (12 - length pin) 0) (length pin)) (new_mark (eqb i 0x1e))

-- what stands in the buffer from the place on, taken as header and message, is accepted, and the order is pending: nothing else of the record changes
abbrev pub WrapAccepted : Type 0
WrapAccepted =
    (d : Desk) (pan : List ℕ) (q i : ℕ) (g pin b : List ℕ) (place : ℕ) (r : Card) → (wraps d pan q i g pin b place).code ≡ 0 → KeysOf d pan q r → Named r g
    → step r (Script (take 4 (drop place (wraps d pan q i g pin b place).buffer)) (take (size_for i) (drop (place + 4) (wraps d pan q i g pin b place).buffer)))
    ≡ plain (with_transaction r (pend (order_for i pin) r.transaction)) 0

-- an unblocked card with none open, whose counters are not full
pub record CanOpen (r : Card) : Type 0 where
  pub is_sound : sound r ≡ true
  pub idle : is_open r.transaction.phase ≡ false
  pub unblocked : r.mark ≡ false
  pub counter : r.atc < 65535
  pub session : r.counters.session ≡ 65535 → ⊥

-- the data that reach the issuer: those given to the card, with the card's counter in them
abbrev pub sent : Card → List ℕ → List ℕ
sent r m = sets m 31 (be_octets 2 (r.atc + 1))

-- the card's answer to an Open, the desk's to that, and the card's to the ARPC
pub record Met (csu : List ℕ) (o : Reply) (x : Result Checked Refusal) : Type 0 where
  pub opened : o.code ≡ 0
  pub answer : Checked
  pub checked : x ≡ Ok answer
  pub answered : (step o.card (IssuerAnswer answer.arpc csu)).code ≡ 0

-- the card is held, and its counter is above the one that the table has of it, if any
abbrev pub OpenAccepted : Type 0
OpenAccepted =
    (d : Desk) (pan : List ℕ) (q : ℕ) (r : Card) (m csu : List ℕ) → CanOpen r → KeysOf d pan q r → length m ≡ 65 → length csu ≡ 4
    → held (id_of pan q) d.places ≡ true → ((l : ℕ) → first (readings (id_of pan q) d.places) ≡ Some l → l < r.atc + 1)
    → Met csu (step r (Open m)) (checks d pan q (sent r m) (step r (Open m)).bytes csu)

-- both ways
pub record DeskCard : Type 0 where
  pub wrapped : WrapAccepted
  pub opened : OpenAccepted
