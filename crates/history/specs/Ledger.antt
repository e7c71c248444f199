-- The ledger of demand 3, and the record as it must be. The ledger is written from what was personalised and the calls alone: a line for each call,
-- the latest first, with the answer that is due. No answer of any box is read, and no record that a call hands back. Assumes nothing.
use Rattle.std.specs.Prelude.{ℕ, ◌+◌, ◌-◌, Bool, true, false, not, ◌&&◌, ◌||◌, cond, List, [], ◌∷◌, ◌++◌, eqb, replicate}
use Rattle.shapes.specs.Shape.{length_of, tag_of, data_of}
use Rattle.shapes.specs.Command.{command_of}
use Rattle.derive.specs.Derivation.{derived, card_label}
use Rattle.pin.specs.declared.Counters.{Counters as CounterStruct}
use Rattle.pin.specs.Answers.{decipher_pin}
use Rattle.transaction.specs.declared.Phase.{Phase}
use Rattle.transaction.specs.declared.Phase.TheVariants.{Idle, Arqc, Aac}
use Rattle.transaction.specs.declared.PendingMark.TheVariants.{Nothing}
use Rattle.transaction.specs.declared.Transaction.{Transaction}
use Rattle.transaction.specs.Transaction.{is_open}
use Rattle.card.specs.declared.Card.{Card}
use Rattle.card.specs.Record.{Kept, kept, with_pin, with_mark, with_transaction, with_kept, with_counters, full_tries, with_tries}
use Rattle.card.specs.Calls.{Call, Open, IssuerAnswer, Script, Close, Withdraw, Counters, Answer, due, Order, new_pin, new_mark, orders, pend_all, CheckPin}
use Rattle.history.specs.Run.{Loading, personalised_with, Entry, did, History, frame, is_opening, is_answer, is_failure, is_misread, is_mistaken, is_recognised}

-- how many lines pass a test; and how many since the last that passes another, added to a start if there was none
abbrev pub how_many : (Entry → Bool) → History → ℕ
how_many p [] = 0
how_many p (e ∷ t) = how_many p t + cond (p e) 1 0

abbrev pub since : (Entry → Bool) → (Entry → Bool) → ℕ → History → ℕ
since q p n [] = n
since q p n (e ∷ t) = cond (q e) 0 (since q p n t + cond (p e) 1 0)

-- the transaction that is open by the ledger: its kind and cryptogram are those that the accepted opening was answered, a refused script spoils it,
-- and its accepted commands order, in order. A close or a withdrawal ends it
pub record Page : Type 0 where
  pub phase : Phase
  pub cryptogram : List ℕ
  pub spoilt : Bool
  pub ordered : List Order

abbrev pub no_page : Page
no_page = record { phase = Idle; cryptogram = replicate 8 0; spoilt = false; ordered = [] }

abbrev pub opened_page : Answer → Page
opened_page a = record { phase = cond (eqb a.kind 0x80) Arqc Aac; cryptogram = a.bytes; spoilt = false; ordered = [] }

-- an accepted command's PIN stands under the SMC key of the cryptogram
abbrev pub orders_in : Card → List ℕ → List ℕ → List ℕ → List Order
orders_in r g h m = orders (command_of h (tag_of m) (length_of m)) (decipher_pin (derived r.smc card_label g) (data_of m))

abbrev pub scripted : Card → List ℕ → List ℕ → ℕ → Page → Page
scripted r h m n p =
    record {
      phase = p.phase;
      cryptogram = p.cryptogram;
      spoilt = p.spoilt || (is_open p.phase && not (eqb n 0));
      ordered = cond (eqb n 0) (p.ordered ++ orders_in r p.cryptogram h m) p.ordered;
    }

abbrev pub turned : Card → Entry → Page → Page
turned r (did (Open d) a) p = cond (eqb a.number 0) (opened_page a) p
turned r (did (IssuerAnswer arpc csu) a) p = p
turned r (did (Script h m) a) p = scripted r h m a.number p
turned r (did Close a) p = no_page
turned r (did Withdraw a) p = no_page
turned r (did Counters a) p = p
turned r (did (CheckPin b) a) p = p

abbrev pub page : Card → History → Page
page r [] = no_page
page r (e ∷ t) = turned r e (page r t)

-- what was made good: a close makes good what was ordered in a transaction that is open and unspoilt
abbrev pub made_good : Page → Entry → List Order
made_good p (did c a) = cond (eqb (frame c) 4 && (is_open p.phase && not p.spoilt)) p.ordered []

abbrev pub good : Card → History → List Order
good r [] = []
good r (e ∷ t) = good r t ++ made_good (page r t) e

-- an order, and orders in order, on what is kept
abbrev pub obeyed : Order → Kept → Kept
obeyed (new_pin p n) k = with_pin k p n
obeyed (new_mark x) k = with_mark k x

abbrev pub all_obeyed : List Order → Kept → Kept
all_obeyed [] k = k
all_obeyed (o ∷ os) k = all_obeyed os (obeyed o k)

-- "The kept PIN and block mark are the starting ones, changed in order by just those commands that demand 2 accepts in transactions closed
-- unspoilt."
abbrev pub kept_by : Card → History → Kept
kept_by r t = all_obeyed (good r t) (kept r)

-- "The transaction counter has grown by the accepted openings,"
abbrev pub atc_by : Card → History → ℕ
atc_by r t = r.atc + how_many is_opening t

-- "the script failure counter by the Script calls refused with 8, and the session counter holds the accepted openings since the last accepted
-- issuer answer, added to its start if there was none." "A badly formed block adds 1 to the PIN decipherment counter." (Wish 4)
abbrev pub counters_by : Card → History → CounterStruct
counters_by r t =
    record {
      session = since is_answer is_opening r.counters.session t;
      failures = r.counters.failures + how_many is_failure t;
      decipherments = r.counters.decipherments + how_many is_misread t;
      authentications = r.counters.authentications;
    }

-- "A well-formed wrong PIN takes one try away; the right one, compared with the kept PIN, restores three." "A PIN change kept at Close restores three."
-- (Wish 4): three, or the start where nothing restored them, less the checks refused with 14 since the last restoring
abbrev pub new_pin_in : List Order → Bool
new_pin_in [] = false
new_pin_in (new_pin p n ∷ os) = true
new_pin_in (new_mark x ∷ os) = new_pin_in os

abbrev pub restores : Page → Entry → Bool
restores p e = is_recognised e || new_pin_in (made_good p e)

abbrev pub tries_by : Card → History → ℕ
tries_by r [] = r.tries
tries_by r (e ∷ t) = cond (restores (page r t) e) full_tries (tries_by r t - cond (is_mistaken e) 1 0)

-- while a transaction is open, its kind, cryptogram and spoilt mark, and pending what its commands ordered, in order
abbrev pub transaction_by : Page → Transaction
transaction_by p =
    pend_all p.ordered (record { phase = p.phase; cryptogram = p.cryptogram; pin = replicate 12 0; count = 0; mark = Nothing; spoilt = p.spoilt })

-- the record as it must be; the keys stay
unfoldable pub must_be : Card → History → Card
must_be r t =
    with_transaction (with_tries (with_kept (with_counters r (atc_by r t) (counters_by r t)) (kept_by r t)) (tries_by r t)) (transaction_by (page r t))

-- the ledger of some calls: each is answered what is due of the record as it must be
unfoldable pub ledger : Card → History → List Call → History
ledger r t [] = t
ledger r t (c ∷ cs) = ledger r (did c (due (must_be r t) c) ∷ t) cs

-- the record as it must be after some calls of the one that was personalised
abbrev pub loaded : Loading → Card
loaded l = (personalised_with l).card

abbrev pub after_calls : Loading → List Call → Card
after_calls l cs = must_be (loaded l) (ledger (loaded l) [] cs)
