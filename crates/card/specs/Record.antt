-- The record of the soft card (01, The soft card): when it is sound, and the record with a part set anew. Assumes nothing.
use Rattle.std.specs.Prelude.{ℕ, ◌+◌, Bool, ◌&&◌, List, leb}
use Rattle.pin.specs.declared.Counters.{Counters}
use Rattle.pin.specs.PinBlock.{pin_fits}
use Rattle.transaction.specs.declared.Transaction.{Transaction}
use Rattle.transaction.specs.Transaction.{pending_fits, rest_fits}
use Rattle.card.specs.declared.Card.{Card}

-- "A record is sound when its PIN has 4 to 12 digits from 0 to 9 with zeros in the unused places, a pending PIN likewise (count and places all zero
-- where none is pending), and with none open all transaction fields are zero." "The record gains the tries left, 0 to 3 (more is unsound)" (Wish 4)
abbrev pub full_tries : ℕ
full_tries = 3

unfoldable pub sound : Card → Bool
sound r =
    pin_fits 0 r.count r.pin
    && (leb r.tries full_tries && (pending_fits r.transaction.count r.transaction.pin && rest_fits r.transaction))

-- the master keys, and what is kept from one transaction to the next
pub record Masters : Type 0 where
  pub ac : List ℕ
  pub smi : List ℕ
  pub smc : List ℕ

pub record Kept : Type 0 where
  pub pin : List ℕ
  pub count : ℕ
  pub mark : Bool

abbrev pub masters : Card → Masters
masters r = record { ac = r.ac; smi = r.smi; smc = r.smc }

abbrev pub kept : Card → Kept
kept r = record { pin = r.pin; count = r.count; mark = r.mark }

-- with another PIN, and with another mark
abbrev pub with_pin : Kept → List ℕ → ℕ → Kept
with_pin k p n = record { pin = p; count = n; mark = k.mark }

abbrev pub with_mark : Kept → Bool → Kept
with_mark k b = record { pin = k.pin; count = k.count; mark = b }

-- the record of its parts, and a record with a part set anew
abbrev pub card_of : Masters → Kept → ℕ → ℕ → Counters → Transaction → Card
card_of m k tries atc c t =
    record {
      ac = m.ac;
      smi = m.smi;
      smc = m.smc;
      pin = k.pin;
      count = k.count;
      mark = k.mark;
      tries = tries;
      atc = atc;
      counters = c;
      transaction = t;
    }

abbrev pub with_transaction : Card → Transaction → Card
with_transaction r t = card_of (masters r) (kept r) r.tries r.atc r.counters t

abbrev pub with_kept : Card → Kept → Card
with_kept r k = card_of (masters r) k r.tries r.atc r.counters r.transaction

abbrev pub with_tries : Card → ℕ → Card
with_tries r n = card_of (masters r) (kept r) n r.atc r.counters r.transaction

abbrev pub with_counters : Card → ℕ → Counters → Card
with_counters r atc c = card_of (masters r) (kept r) r.tries atc c r.transaction

-- the counters of their numbers; with the session counter set anew, with one failure more, and with one PIN decipherment more
abbrev pub counters_at : ℕ → ℕ → ℕ → ℕ → Counters
counters_at s f d a = record { session = s; failures = f; decipherments = d; authentications = a }

abbrev pub with_session : Counters → ℕ → Counters
with_session c n = counters_at n c.failures c.decipherments c.authentications

abbrev pub one_failed : Counters → Counters
one_failed c = counters_at c.session (c.failures + 1) c.decipherments c.authentications

abbrev pub one_misread : Counters → Counters
one_misread c = counters_at c.session c.failures (c.decipherments + 1) c.authentications
