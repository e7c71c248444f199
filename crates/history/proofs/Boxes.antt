-- The five useless boxes that 01 names (How tightly each answer is tied), and three more. Assumes nothing.
use Prim.Native.Nat.{ℕ}
use mathlib.Core.Bool.{Bool, not, ◌&&◌, cond}
use mathlib.Core.List.{List}
use lib.Dec.{eqb}
use lib.ListN.{replicate}
use Rattle.transaction.specs.declared.Transaction.{Transaction}
use Rattle.transaction.specs.declared.Phase.TheVariants.{Aac}
use Rattle.transaction.specs.Transaction.{is_unmarked, none, just_opened}
use Rattle.card.specs.declared.Card.{Card}
use Rattle.card.specs.declared.Reply.{Reply}
use Rattle.card.specs.Record.{with_transaction, kept, with_kept, with_tries, full_tries}
use Rattle.card.specs.Calls.{Open, IssuerAnswer, Script, Close, Withdraw, Counters, grown, plain, step, CheckPin, settled}
use Rattle.history.specs.Run.{Box}

-- "One refusing everything"
abbrev pub refuses_everything : Box
refuses_everything r c = plain r 1

-- "One giving a constant cryptogram": all else is right
abbrev pub zeroed : Card → List ℕ → Reply
zeroed r d =
    record { card = with_transaction (grown r) (just_opened r.mark (replicate 8 0)); code = 0; kind = (step r (Open d)).kind; bytes = replicate 8 0 }

abbrev pub constant_cryptogram : Box
constant_cryptogram r (Open d) = cond (eqb (step r (Open d)).code 0) (zeroed r d) (step r (Open d))
constant_cryptogram r (IssuerAnswer x u) = step r (IssuerAnswer x u)
constant_cryptogram r (Script h m) = step r (Script h m)
constant_cryptogram r Close = step r Close
constant_cryptogram r Withdraw = step r Withdraw
constant_cryptogram r Counters = step r Counters
constant_cryptogram r (CheckPin b) = step r (CheckPin b)

-- "One that does nothing": its Close keeps nothing
abbrev pub does_nothing : Box
does_nothing r (Open d) = step r (Open d)
does_nothing r (IssuerAnswer x u) = step r (IssuerAnswer x u)
does_nothing r (Script h m) = step r (Script h m)
does_nothing r Close = cond (eqb (step r Close).code 0) (plain (with_transaction r none) 0) (step r Close)
does_nothing r Withdraw = step r Withdraw
does_nothing r Counters = step r Counters
does_nothing r (CheckPin b) = step r (CheckPin b)

-- "One that honours only the first command of a transaction": with something pending, it takes no more
abbrev pub has_pending : Transaction → Bool
has_pending t = not (eqb t.count 0 && is_unmarked t.mark)

abbrev pub first_only : Box
first_only r (Open d) = step r (Open d)
first_only r (IssuerAnswer x u) = step r (IssuerAnswer x u)
first_only r (Script h m) = cond (has_pending r.transaction && eqb (step r (Script h m)).code 0) (plain r 0) (step r (Script h m))
first_only r Close = step r Close
first_only r Withdraw = step r Withdraw
first_only r Counters = step r Counters
first_only r (CheckPin b) = step r (CheckPin b)

-- "A box with made-up counters": they grow with every call
abbrev pub made_up_counters : Box
made_up_counters r c = record { card = grown (step r c).card; code = (step r c).code; kind = (step r c).kind; bytes = (step r c).bytes }

-- Three more, each right in all that it answers at first. One never changes its record:
abbrev pub silent : Box
silent r c = record { card = r; code = (step r c).code; kind = (step r c).kind; bytes = (step r c).bytes }

-- one stores every transaction as an AAC;
abbrev pub as_aac : Transaction → Transaction
as_aac t = record { phase = Aac; cryptogram = t.cryptogram; pin = t.pin; count = t.count; mark = t.mark; spoilt = t.spoilt }

abbrev pub stored : Reply → Reply
stored a = record { card = with_transaction a.card (as_aac a.card.transaction); code = a.code; kind = a.kind; bytes = a.bytes }

abbrev pub stored_as_aac : Box
stored_as_aac r (Open d) = cond (eqb (step r (Open d)).code 0) (stored (step r (Open d))) (step r (Open d))
stored_as_aac r (IssuerAnswer x u) = step r (IssuerAnswer x u)
stored_as_aac r (Script h m) = step r (Script h m)
stored_as_aac r Close = step r Close
stored_as_aac r Withdraw = step r Withdraw
stored_as_aac r Counters = step r Counters
stored_as_aac r (CheckPin b) = step r (CheckPin b)

-- one forgets the cryptogram at Counters
abbrev pub wiped : Transaction → Transaction
wiped t = record { phase = t.phase; cryptogram = replicate 8 0; pin = t.pin; count = t.count; mark = t.mark; spoilt = t.spoilt }

abbrev pub wipes : Box
wipes r (Open d) = step r (Open d)
wipes r (IssuerAnswer x u) = step r (IssuerAnswer x u)
wipes r (Script h m) = step r (Script h m)
wipes r Close = step r Close
wipes r Withdraw = step r Withdraw
wipes r Counters = record { card = with_transaction r (wiped r.transaction); code = (step r Counters).code; kind = 0; bytes = (step r Counters).bytes }
wipes r (CheckPin b) = step r (CheckPin b)

-- "only the kept PIN is compared": one compares the pending PIN, where there is one;
abbrev pub as_pending : Card → Card
as_pending r = with_kept r (settled r.transaction (kept r))

abbrev pub compares_pending : Box
compares_pending r (Open d) = step r (Open d)
compares_pending r (IssuerAnswer x u) = step r (IssuerAnswer x u)
compares_pending r (Script h m) = step r (Script h m)
compares_pending r Close = step r Close
compares_pending r Withdraw = step r Withdraw
compares_pending r Counters = step r Counters
compares_pending r (CheckPin b) =
    plain (with_kept (step (as_pending r) (CheckPin b)).card (kept r)) (step (as_pending r) (CheckPin b)).code

-- "Tries and this counter stay after Withdraw": one gives the tries back
abbrev pub gives_back : Box
gives_back r (Open d) = step r (Open d)
gives_back r (IssuerAnswer x u) = step r (IssuerAnswer x u)
gives_back r (Script h m) = step r (Script h m)
gives_back r Close = step r Close
gives_back r Withdraw = plain (with_tries (step r Withdraw).card full_tries) (step r Withdraw).code
gives_back r Counters = step r Counters
gives_back r (CheckPin b) = step r (CheckPin b)
