-- The calls (01, The soft card and Numbered refusals): with which number a call is refused, what it gives, and the record after it.
-- Assumes nothing.
use Rattle.std.specs.Prelude.{ℕ, ◌+◌, ◌-◌, Bool, true, false, not, ◌&&◌, ◌||◌, cond, List, [], ◌∷◌, eqb, length, replicate, Result, Ok, Err, is_err}
use Rattle.std.specs.Result.{result_unwrap_or}
use Rattle.answers.specs.declared.Refusal.{Refusal}
use Rattle.answers.specs.declared.Refusal.TheVariants.{Input, ShapeWrong, NotListed, PhaseWrong, CounterFull, CodeDiffers, PinFormat, SpoiltClosed, ArpcDiffers, WrongPin, NoTries}
use Rattle.answers.specs.Refusals.{number}
use Rattle.octets.specs.Same.{same}
use Rattle.gost.specs.Gost.{subkeys, encipher}
use Rattle.pin.specs.declared.Pin.{Pin}
use Rattle.pin.specs.CounterBlock.{counter_block}
use Rattle.pin.specs.Answers.{decipher_pin}
use Rattle.cryptogram.specs.Cryptogram.{cryptogram_of, arpc_of}
use Rattle.cryptogram.specs.Answers.{kind_number}
use Rattle.shapes.specs.declared.command.Command.{Command}
use Rattle.shapes.specs.declared.command.Command.TheVariants.{SetPin, SetMark, ClearMark}
use Rattle.shapes.specs.Rules.{Rules, present}
use Rattle.shapes.specs.Shape.{tag_of, length_of_under, data_of_under, shape_under}
use Rattle.shapes.specs.Command.{first_of}
use Rattle.message.specs.Code.{code_fits_under}
use Rattle.transaction.specs.declared.Transaction.{Transaction}
use Rattle.transaction.specs.Transaction.{is_open, none, spoilt, with_pending, kind_for, just_opened, is_arqc, mark_for, mark_after}
use Rattle.card.specs.declared.Card.{Card}
use Rattle.card.specs.declared.Reply.{Reply}
use Rattle.card.specs.Record.{full_tries, sound, Kept, kept, with_pin, with_mark, with_transaction, with_kept, with_tries, with_counters, with_session, one_failed, one_misread}
use Rattle.card.specs.Keys.{session_key_of, smi_key, smc_key, counter_key_of}

pub data Call : Type 0 where
  Open : List ℕ → Call
  IssuerAnswer : List ℕ → List ℕ → Call
  Script : List ℕ → List ℕ → Call
  Close Withdraw Counters : Call
  CheckPin : List ℕ → Call

-- a call is refused by the first check that strikes, and accepted where none does
pub data Verdict : Type 0 where
  refuse : Refusal → Verdict
  accept : Verdict

pub data Check : Type 0 where
  strikes : Bool → Refusal → Check

abbrev pub first_struck : List Check → Verdict
first_struck [] = accept
first_struck (strikes b q ∷ cs) = cond b (refuse q) (first_struck cs)

-- what a script is to a record: whether its shape is good, its command, whether its code fits under the SMI key, and the PIN block that its data are
-- under the SMC key
pub record Message : Type 0 where
  pub shaped : Bool
  pub command : Result Command Refusal
  pub coded : Bool
  pub block : Result Pin Refusal

abbrev pub read_under : Rules → Card → List ℕ → List ℕ → Message
read_under k r h m =
    record {
      shaped = shape_under k m;
      command = first_of k.commands h (tag_of m) (length_of_under k m);
      coded = code_fits_under k (smi_key r) h m;
      block = decipher_pin (smc_key r) (data_of_under k m);
    }

abbrev pub read : Card → List ℕ → List ℕ → Message
read = read_under present

abbrev pub unlisted : Result Command Refusal → Bool
unlisted = is_err

abbrev pub why_unlisted : Result Command Refusal → Refusal
why_unlisted (Err q) = q
why_unlisted (Ok c) = NotListed

-- a new PIN whose block does not read
abbrev pub unread : Result Command Refusal → Result Pin Refusal → Bool
unread (Err q) x = false
unread (Ok SetPin) x = is_err x
unread (Ok SetMark) x = false
unread (Ok ClearMark) x = false

-- "Script 6, 1 (header), 4, 5, 7, 8, 9."
abbrev pub script_checks : Card → List ℕ → Message → List Check
script_checks r h x =
    strikes (not (is_open r.transaction.phase)) PhaseWrong
    ∷ strikes (not (eqb (length h) 4)) Input
    ∷ strikes (not x.shaped) ShapeWrong
    ∷ strikes (unlisted x.command) (why_unlisted x.command)
    ∷ strikes (eqb r.counters.failures 65535) CounterFull
    ∷ strikes (not x.coded) CodeDiffers
    ∷ strikes (unread x.command x.block) PinFormat
    ∷ []

unfoldable pub judged_script : Card → List ℕ → Message → Verdict
judged_script r h x = first_struck (script_checks r h x)

-- "compared with the kept PIN": its count and its digits
abbrev pub is_kept : Card → Result Pin Refusal → Bool
is_kept r (Ok p) = eqb p.count r.count && same p.digits r.pin
is_kept r (Err q) = false

-- "order 6, 1, 15, 7 when that counter is 65535, 9, 14" (Wish 4): of a block, and of what it reads as
abbrev pub pin_checks : Card → List ℕ → Result Pin Refusal → List Check
pin_checks r b x =
    strikes (not (is_open r.transaction.phase)) PhaseWrong
    ∷ strikes (not (eqb (length b) 8)) Input
    ∷ strikes (eqb r.tries 0) NoTries
    ∷ strikes (eqb r.counters.decipherments 65535) CounterFull
    ∷ strikes (is_err x) PinFormat
    ∷ strikes (not (is_kept r x)) WrongPin
    ∷ []

-- the ARPC that the card expects
unfoldable pub arpc_for : Card → List ℕ → List ℕ
arpc_for r csu = arpc_of (subkeys 8 (session_key_of r)) r.transaction.cryptogram csu

-- "Order: Open 6, 1, 7. Issuer answer 6, 1, 11. Close 6, 1, 10. Counters 6, 1. Withdraw 1": the 1 of Close, Withdraw and Counters is a wrong frame
-- length, which only a trace brings (Frames); an unsound record's 1 stands ahead of all, in due
unfoldable pub judged_under : Rules → Card → Call → Verdict
judged_under k r (Open d) =
    first_struck
    (strikes (is_open r.transaction.phase) PhaseWrong
    ∷ strikes (not (eqb (length d) 65)) Input
    ∷ strikes (eqb r.atc 65535 || eqb r.counters.session 65535) CounterFull
    ∷ [])
judged_under k r (IssuerAnswer arpc csu) =
    first_struck
    (strikes (not (is_arqc r.transaction.phase)) PhaseWrong
    ∷ strikes (not (eqb (length arpc) 8 && eqb (length csu) 4)) Input
    ∷ strikes (not (same arpc (arpc_for r csu))) ArpcDiffers
    ∷ [])
judged_under k r (Script h m) = judged_script r h (read_under k r h m)
judged_under k r Close = first_struck (strikes (not (is_open r.transaction.phase)) PhaseWrong ∷ strikes r.transaction.spoilt SpoiltClosed ∷ [])
judged_under k r Withdraw = accept
judged_under k r Counters = first_struck (strikes (not (is_open r.transaction.phase)) PhaseWrong ∷ [])
judged_under k r (CheckPin b) = first_struck (pin_checks r b (decipher_pin (smc_key r) b))

abbrev pub judged : Card → Call → Verdict
judged = judged_under present

-- Open: "counter and session counter grow by 1; the session key comes from the new counter"
abbrev pub grown : Card → Card
grown r = with_counters r (r.atc + 1) (with_session r.counters (r.counters.session + 1))

unfoldable pub cryptogram_for : Card → List ℕ → List ℕ
cryptogram_for r d = cryptogram_of (subkeys 8 (session_key_of r)) (kind_for r.mark) r.atc d

-- Counters: "the enciphered counter block"
unfoldable pub counters_for : Card → List ℕ
counters_for r = encipher (counter_key_of r) (counter_block r.counters)

-- what a call is answered
pub record Answer : Type 0 where
  pub number : ℕ
  pub kind : ℕ
  pub bytes : List ℕ

-- "A refusal returns its number only."
abbrev pub only : ℕ → Answer
only n = record { number = n; kind = 0; bytes = replicate 8 0 }

-- what an accepted call gives
abbrev pub gives : Card → Call → Answer
gives r (Open d) = record { number = 0; kind = kind_number (kind_for r.mark); bytes = cryptogram_for (grown r) d }
gives r (IssuerAnswer arpc csu) = only 0
gives r (Script h m) = only 0
gives r Close = only 0
gives r Withdraw = only 0
gives r Counters = record { number = 0; kind = 0; bytes = counters_for r }
gives r (CheckPin b) = only 0

-- "24 .. sets the pending PIN; 1e and 18 .. set and clear the pending mark": what a command orders, and orders become pending
pub data Order : Type 0 where
  new_pin : List ℕ → ℕ → Order
  new_mark : Bool → Order

-- the PIN of a block; none where it does not read
abbrev pub pin_or_none : Result Pin Refusal → Pin
pin_or_none x = result_unwrap_or x (record { digits = replicate 12 0; count = 0 })

abbrev pub orders : Result Command Refusal → Result Pin Refusal → List Order
orders (Err q) x = []
orders (Ok SetPin) x = new_pin (pin_or_none x).digits (pin_or_none x).count ∷ []
orders (Ok SetMark) x = new_mark true ∷ []
orders (Ok ClearMark) x = new_mark false ∷ []

abbrev pub pend : Order → Transaction → Transaction
pend (new_pin p n) t = with_pending t p n t.mark
pend (new_mark b) t = with_pending t t.pin t.count (mark_for b)

abbrev pub pend_all : List Order → Transaction → Transaction
pend_all [] t = t
pend_all (o ∷ os) t = pend_all os (pend o t)

-- Close: "a pending PIN or mark becomes the kept one"
unfoldable pub settled : Transaction → Kept → Kept
settled t k =
    with_mark (with_pin k (cond (eqb t.count 0) k.pin t.pin) (cond (eqb t.count 0) k.count t.count)) (mark_after t.mark k.mark)

-- "A PIN change kept at Close restores three." (Wish 4)
abbrev pub tries_after : Transaction → ℕ → ℕ
tries_after t n = cond (eqb t.count 0) n full_tries

-- the record with what is pending laid over what is kept
abbrev pub settled_record : Card → Transaction → Card
settled_record r t = with_tries (with_kept r (settled t (kept r))) (tries_after t r.tries)

-- the record after an accepted call. Issuer answer: "on a match the session counter becomes 0". Withdraw: "drops what is pending and ends the
-- transaction". Counters: "Changes nothing." A PIN check: "the right one .. restores three".
abbrev pub accepted_script : Card → Message → Card
accepted_script r x = with_transaction r (pend_all (orders x.command x.block) r.transaction)

abbrev pub accepted_under : Rules → Card → Call → Card
accepted_under k r (Open d) = with_transaction (grown r) (just_opened r.mark (cryptogram_for (grown r) d))
accepted_under k r (IssuerAnswer arpc csu) = with_counters r r.atc (with_session r.counters 0)
accepted_under k r (Script h m) = accepted_script r (read_under k r h m)
accepted_under k r Close = with_transaction (settled_record r r.transaction) none
accepted_under k r Withdraw = with_transaction r none
accepted_under k r Counters = r
accepted_under k r (CheckPin b) = with_tries r full_tries

abbrev pub accepted : Card → Call → Card
accepted = accepted_under present

-- the table's column "Record after": as before, but for Script, whose every refusal in an open transaction spoils it and whose 8 adds 1 to the failure
-- counter, and for 10: "pending dropped, none open"
abbrev pub spoiled_by : Card → Refusal → Card
spoiled_by r q =
    with_transaction (with_counters r r.atc (cond (eqb (number q) (number CodeDiffers)) (one_failed r.counters) r.counters)) (spoilt r.transaction)

abbrev pub refused_script : Card → Refusal → Card
refused_script r q = cond (is_open r.transaction.phase) (spoiled_by r q) r

-- a PIN check: "A badly formed block adds 1 to the PIN decipherment counter. A well-formed wrong PIN takes one try away"; "the others leave the record as it
-- was" (Wish 4)
abbrev pub refused_check : Card → Refusal → Card
refused_check r q =
    cond (eqb (number q) (number PinFormat)) (with_counters r r.atc (one_misread r.counters))
    (cond (eqb (number q) (number WrongPin)) (with_tries r (r.tries - 1)) r)

abbrev pub refused : Card → Call → Refusal → Card
refused r (Open d) q = r
refused r (IssuerAnswer arpc csu) q = r
refused r (Script h m) q = refused_script r q
refused r Close q = cond (eqb (number q) (number SpoiltClosed)) (with_transaction r none) r
refused r Withdraw q = r
refused r Counters q = r
refused r (CheckPin b) q = refused_check r q

-- what is due, and the record after, by the verdict; "Any unsound record gets 1 ahead of all other checks and comes back unchanged, Script included."
abbrev pub due_by : Card → Call → Verdict → Answer
due_by r c (refuse q) = only (number q)
due_by r c accept = gives r c

abbrev pub after_by_under : Rules → Card → Call → Verdict → Card
after_by_under k r c (refuse q) = refused r c q
after_by_under k r c accept = accepted_under k r c

abbrev pub after_by : Card → Call → Verdict → Card
after_by = after_by_under present

unfoldable pub due_under : Rules → Card → Call → Answer
due_under k r c = cond (sound r) (due_by r c (judged_under k r c)) (only (number Input))

abbrev pub due : Card → Call → Answer
due = due_under present

unfoldable pub after_under : Rules → Card → Call → Card
after_under k r c = cond (sound r) (after_by_under k r c (judged_under k r c)) r

abbrev pub after : Card → Call → Card
after = after_under present

abbrev pub reply : Card → Answer → Reply
reply r a = record { card = r; code = a.number; kind = a.kind; bytes = a.bytes }

abbrev pub plain : Card → ℕ → Reply
plain r n = reply r (only n)

abbrev pub step_under : Rules → Card → Call → Reply
step_under k r c = reply (after_under k r c) (due_under k r c)

abbrev pub step : Card → Call → Reply
step = step_under present
