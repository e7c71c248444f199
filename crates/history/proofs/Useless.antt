-- The useless boxes: of each a demand is false. Assumes nothing.
use Prim.Native.Nat.{ℕ, ◌+◌}
use native.Mathlib.Omega.{arith}
use mathlib.Core.Path.{◌≡◌, refl, sym, ap, ap₂, subst, ◌∙◌}
use mathlib.Core.List.{List, [], ◌∷◌}
use mathlib.Core.Bool.{Bool, true, false, not, ◌&&◌, cond, true≢false, false≢true}
use lib.Dec.{eqb, lit<}
use lib.ListN.{length, get_or, replicate}
use borrow.Author.Tests.{eqb-false}
use Rattle.octets.specs.Numbers.{be, le, le_octets}
use Rattle.octets.specs.Digits.{digits}
use Rattle.shapes.specs.declared.command.Command.{Command}
use Rattle.shapes.specs.declared.command.Command.TheVariants.{SetMark, ClearMark}
use Rattle.shapes.specs.Command.{header_of}
use Rattle.shapes.proofs.CommandLaws.{length-is}
use Rattle.gost.specs.Gost.{subkeys}
use Rattle.pin.specs.PinBlock.{pin_fits, nibbles, well_formed}
use Rattle.pin.specs.CounterBlock.{counters_of}
use Rattle.pin.specs.Answers.{found, read_block}
use Rattle.cryptogram.specs.declared.Kind.TheVariants.{Arqc}
use Rattle.cryptogram.specs.Cryptogram.{twice}
use Rattle.transaction.specs.declared.Transaction.{Transaction}
use Rattle.transaction.specs.Transaction.{is_open, is_arqc, none}
use Rattle.card.specs.declared.Card.{Card}
use Rattle.card.specs.declared.Reply.{Reply}
use Rattle.card.specs.Record.{sound, kept, with_transaction}
use Rattle.card.specs.Keys.{session_key_of}
use Rattle.card.specs.Calls.{Call, Open, Script, Close, Withdraw, Counters, judged_under, Answer, grown, cryptogram_for, gives, new_mark, pend, settled, accepted, reply, plain, step}
use Rattle.card.specs.Personalise.{personalised}
use Rattle.history.specs.Run as runs
use Rattle.history.specs.Run.{Loading, Box, answer_of, boxed}
use Rattle.history.specs.Demand2.{Reached, Accepts}
use Rattle.history.specs.Ledger.{loaded, after_calls}
use Rattle.history.specs.Demand3.{Fresh}
use Rattle.history.specs.Demands.{Demand2, Demand3}
use Rattle.history.proofs.Boxes.{refuses_everything, zeroed, constant_cryptogram, does_nothing, has_pending, first_only, made_up_counters, silent, stored, stored_as_aac, wiped, wipes, gives_back}
use Rattle.history.proofs.Own.{run}
use Rattle.history.proofs.Change.{step_by, change, Change, quiet, counted}
use Rattle.history.proofs.Does.{wrapped_for, accepts, takes_it, opens}
use Rattle.history.proofs.Keeps.{keeps, fresh_of, fresh_law, started}
use Rattle.history.proofs.Shadow.{our_record}
use Rattle.history.proofs.Onto.{cryptogram_onto}

-- a fresh record, of PIN 1234
abbrev pub first_loading : Loading
first_loading =
    record {
      ac = replicate 32 0;
      smi = replicate 32 0;
      smc = replicate 32 0;
      atc = 0;
      counters = replicate 8 0;
      mark = 0;
      block = 0x24 ∷ 0x12 ∷ 0x34 ∷ 0xff ∷ 0xff ∷ 0xff ∷ 0xff ∷ 0xff ∷ [];
      tries = 2;
    }

is_fresh : Fresh first_loading
unfolding personalised read_block well_formed nibbles pin_fits digits found
is_fresh = refl

abbrev pub first_card : Card
first_card = fresh_of first_loading

starts : loaded first_loading ≡ first_card
starts = ap (λ (a : Reply). a.card) (started first_loading is_fresh)

first_sound : sound first_card ≡ true
first_sound = sym (ap sound starts) ∙ fresh_law first_loading is_fresh

-- a command of the block mark, wrapped under the transaction's key
abbrev order : Card → Command → List ℕ
order r c = wrapped_for r c []

withdraws : (r : Card) → sound r ≡ true → step r Withdraw ≡ plain (with_transaction r none) 0
unfolding judged_under
withdraws r s = step_by r s Withdraw

-- a close of an open transaction that is not spoilt
closes_well : (r : Card) → sound r ≡ true → is_open r.transaction.phase ≡ true → r.transaction.spoilt ≡ false → step r Close ≡ plain (accepted r Close) 0
unfolding judged_under
closes_well r s o p = step_by r s Close ∙ rw (o, p)

-- the fresh record, opened, then blocked
opened_with : (d : List ℕ) → length d ≡ 65 → step first_card (Open d) ≡ reply (accepted first_card (Open d)) (gives first_card (Open d))
unfolding counters_of be le
opened_with d l = opens first_card first_sound d refl l (eqb-false 0 65535 refl) (eqb-false 0 65535 refl)

abbrev pub opened_card : Card
opened_card = (step first_card (Open (replicate 65 0))).card

pub as_opened : step first_card (Open (replicate 65 0)) ≡ reply (accepted first_card (Open (replicate 65 0))) (gives first_card (Open (replicate 65 0)))
as_opened = opened_with (replicate 65 0) refl

pub opened_sound : sound opened_card ≡ true
opened_sound = keeps first_sound (change first_card first_sound (Open (replicate 65 0)))

pub opened_open : is_open opened_card.transaction.phase ≡ true
opened_open = ap (λ (a : Reply). is_open a.card.transaction.phase) as_opened

pub opened_free : opened_card.counters.failures ≡ 65535 → ⊥
unfolding counters_of be le
opened_free e = eqb-false 0 65535 refl (sym (ap (λ (a : Reply). a.card.counters.failures) as_opened) ∙ e)

abbrev block : List ℕ
block = order opened_card SetMark

abbrev blocking_card : Card
blocking_card = (step opened_card (Script (header_of SetMark) block)).card

blocks : step opened_card (Script (header_of SetMark) block) ≡ plain (with_transaction opened_card (pend (new_mark true) opened_card.transaction)) 0
blocks = takes_it opened_card SetMark [] (sym length-is.1) opened_sound opened_open opened_free (λ z. cc)

as_blocking : blocking_card ≡ with_transaction opened_card (pend (new_mark true) opened_card.transaction)
as_blocking = ap (λ (a : Reply). a.card) blocks

blocking_sound : sound blocking_card ≡ true
blocking_sound = keeps opened_sound (change opened_card opened_sound (Script (header_of SetMark) block))

blocking_open : is_open blocking_card.transaction.phase ≡ true
blocking_open = ap (λ (r : Card). is_open r.transaction.phase) as_blocking ∙ opened_open

blocking_spoilt : blocking_card.transaction.spoilt ≡ false
blocking_spoilt = ap (λ (r : Card). r.transaction.spoilt) as_blocking ∙ ap (λ (a : Reply). a.card.transaction.spoilt) as_opened

blocking_closes : step blocking_card Close ≡ plain (accepted blocking_card Close) 0
blocking_closes = closes_well blocking_card blocking_sound blocking_open blocking_spoilt

blocked : (step blocking_card Close).card.mark ≡ true
unfolding settled
blocked = ap (λ (a : Reply). a.card.mark) blocking_closes ∙ ap (λ (r : Card). (settled r.transaction (kept r)).mark) as_blocking

-- what ours shows after some calls of the fresh record is what the ledger says
ledger_says : (cs : List Call) → run first_card cs ≡ after_calls first_loading cs
ledger_says cs = ap (λ (r : Card). run r cs) (sym starts) ∙ our_record first_loading is_fresh cs

-- so a box that meets demand 2 accepts what ours must accept and gives what ours gives, and one that meets demand 3 shows what ours shows
module _ (b : Box) (cs : List Call) where
  abbrev pub its : Card
  its = runs.run (boxed b) first_card cs

  from_start : {A : Type 0} (f : Card → A) → f (runs.run (boxed b) ((boxed b).start first_loading) cs) ≡ f its
  from_start f = ap (λ (r : Card). f (runs.run (boxed b) r cs)) starts

  must_accept : Demand2 (boxed b) → (h m : List ℕ) → Accepts (run first_card cs) h m → (b its (Script h m)).code ≡ 0
  must_accept law h m a =
      sym (from_start (λ (r : Card). (b r (Script h m)).code)) ∙ (law.accepted first_loading cs h m is_fresh).1 (subst (λ (r : Card). Accepts r h m) (ledger_says cs) a)

  must_give : Demand2 (boxed b) → (c : Call) → (b its c).code ≡ 0 → answer_of (b its c) ≡ gives (run first_card cs) c
  must_give law c z =
      sym (from_start (λ (r : Card). answer_of (b r c)))
      ∙ law.given first_loading cs c is_fresh (from_start (λ (r : Card). (b r c).code) ∙ z)
      ∙ ap (λ (r : Card). gives r c) (sym (ledger_says cs))

  pub must_show : Demand3 (boxed b) → its ≡ run first_card cs
  must_show law = sym (from_start (λ (r : Card). r)) ∙ law.the_record first_loading cs is_fresh ∙ sym (ledger_says cs)

abbrev pub some_data : List ℕ
some_data = replicate 65 0

-- refuses everything: demand 2 is false of it, for a command that must be accepted is not
pub refuses_everything_lem : Demand2 (boxed refuses_everything) → ⊥
refuses_everything_lem law =
    eqb-false 1 0 refl
    (must_accept refuses_everything (Open some_data ∷ []) law (header_of SetMark) block (accepts opened_card SetMark [] (sym length-is.1) opened_sound opened_open opened_free (λ z. cc)))

-- does nothing: the first half of demand 3 is false of it
abbrev the_calls : List Call
the_calls = Open some_data ∷ Script (header_of SetMark) block ∷ Close ∷ []

pub does_nothing_lem : Demand3 (boxed does_nothing) → ⊥
does_nothing_lem law =
    let e : runs.run (boxed does_nothing) first_card the_calls ≡ run first_card the_calls = must_show does_nothing the_calls law in
    let z : eqb (step blocking_card Close).code 0 ≡ true = ap (λ (a : Reply). eqb a.code 0) blocking_closes in
    let n : (does_nothing blocking_card Close).card.mark ≡ blocking_card.mark = ap (λ (b : Bool). (cond b (plain (with_transaction blocking_card none) 0) (step blocking_card Close)).card.mark) z in
    let k : blocking_card.mark ≡ false = ap (λ (r : Card). r.mark) as_blocking ∙ ap (λ (a : Reply). a.card.mark) as_opened in
    false≢true (sym (n ∙ k) ∙ ap (λ (r : Card). r.mark) e ∙ blocked)

-- honours only the first command of a transaction: demand 3 is false of it, for commands change what is kept in order
abbrev unblock : List ℕ
unblock = order blocking_card ClearMark

blocking_free : blocking_card.counters.failures ≡ 65535 → ⊥
blocking_free e = opened_free (sym (ap (λ (r : Card). r.counters.failures) as_blocking) ∙ e)

unblocks : step blocking_card (Script (header_of ClearMark) unblock) ≡ plain (with_transaction blocking_card (pend (new_mark false) blocking_card.transaction)) 0
unblocks = takes_it blocking_card ClearMark [] (sym length-is.2) blocking_sound blocking_open blocking_free (λ z. cc)

abbrev unblocking_card : Card
unblocking_card = (step blocking_card (Script (header_of ClearMark) unblock)).card

as_unblocking : unblocking_card ≡ with_transaction blocking_card (pend (new_mark false) blocking_card.transaction)
as_unblocking = ap (λ (a : Reply). a.card) unblocks

unblocking_closes : step unblocking_card Close ≡ plain (accepted unblocking_card Close) 0
unblocking_closes =
    closes_well unblocking_card (keeps blocking_sound (change blocking_card blocking_sound (Script (header_of ClearMark) unblock)))
    (ap (λ (r : Card). is_open r.transaction.phase) as_unblocking ∙ blocking_open)
    (ap (λ (r : Card). r.transaction.spoilt) as_unblocking ∙ blocking_spoilt)

unblocked : (step unblocking_card Close).card.mark ≡ false
unfolding settled
unblocked = ap (λ (a : Reply). a.card.mark) unblocking_closes ∙ ap (λ (r : Card). (settled r.transaction (kept r)).mark) as_unblocking

-- with nothing pending it takes the first, and then no more
first_taken : first_only opened_card (Script (header_of SetMark) block) ≡ step opened_card (Script (header_of SetMark) block)
first_taken =
    ap (λ (b : Bool). cond (b && eqb (step opened_card (Script (header_of SetMark) block)).code 0) (plain opened_card 0) (step opened_card (Script (header_of SetMark) block)))
    (ap (λ (a : Reply). has_pending a.card.transaction) as_opened)

pending_mark : (t : Transaction) → has_pending (pend (new_mark true) t) ≡ true
pending_mark t = go (eqb t.count 0)
  where
    go : (b : Bool) → not (b && false) ≡ true
    go true = refl
    go false = refl

second_lost : first_only blocking_card (Script (header_of ClearMark) unblock) ≡ plain blocking_card 0
second_lost =
    ap₂ (λ (b c : Bool). cond (b && c) (plain blocking_card 0) (step blocking_card (Script (header_of ClearMark) unblock)))
    (ap (λ (r : Card). has_pending r.transaction) as_blocking ∙ pending_mark opened_card.transaction)
    (ap (λ (a : Reply). eqb a.code 0) unblocks)

abbrev two_calls : List Call
two_calls = Open (replicate 65 0) ∷ Script (header_of SetMark) block ∷ Script (header_of ClearMark) unblock ∷ Close ∷ []

pub first_only_lem : Demand3 (boxed first_only) → ⊥
first_only_lem law =
    let f : (first_only opened_card (Script (header_of SetMark) block)).card ≡ blocking_card = ap (λ (a : Reply). a.card) first_taken in
    let e : runs.run (boxed first_only) first_card two_calls ≡ run first_card two_calls = must_show first_only two_calls law in
    let l : runs.run (boxed first_only) first_card two_calls ≡ (step blocking_card Close).card =
    ap (λ (r : Card). (first_only (first_only r (Script (header_of ClearMark) unblock)).card Close).card) f ∙ ap (λ (a : Reply). (step a.card Close).card) second_lost
    in
    true≢false (sym (ap (λ (r : Card). r.mark) l ∙ blocked) ∙ ap (λ (r : Card). r.mark) e ∙ unblocked)

-- made-up counters: demand 3 is false of them, for they are counted from the calls
pub made_up_counters_lem : Demand3 (boxed made_up_counters) → ⊥
made_up_counters_lem law =
    let e : (step first_card Counters).card.atc + 1 ≡ (step first_card Counters).card.atc = ap (λ (r : Card). r.atc) (must_show made_up_counters (Counters ∷ []) law) in
    absurd (omega arith)

-- never changes its record: demand 3 is false of it
pub never_changes : Demand3 (boxed silent) → ⊥
never_changes law =
    let e : first_card ≡ opened_card = must_show silent (Open some_data ∷ []) law in
    eqb-false 0 1 refl (ap (λ (r : Card). r.atc) e ∙ ap (λ (a : Reply). a.card.atc) as_opened)

-- data whose cryptogram is 01 00 00 00 01 00 00 00
telling : Reached (subkeys 8 (session_key_of (grown first_card))) Arqc 1 1
telling = cryptogram_onto (subkeys 8 (session_key_of (grown first_card))) Arqc 1 1 (lit< tt)

tells : cryptogram_for (grown first_card) telling.its_data ≡ twice (le_octets 4 1)
unfolding cryptogram_for
tells = telling.gives

not_zeros : replicate 8 0 ≡ twice (le_octets 4 1) → ⊥
unfolding twice le_octets
not_zeros e = eqb-false 0 1 refl (ap (λ (s : List ℕ). get_or s 0 0) e)

-- gives a constant cryptogram: demand 2 is false of it
pub constant_cryptogram_lem : Demand2 (boxed constant_cryptogram) → ⊥
constant_cryptogram_lem law =
    let d = telling.its_data in
    let e : constant_cryptogram first_card (Open d) ≡ zeroed first_card d =
    ap (λ (n : ℕ). cond (eqb n 0) (zeroed first_card d) (step first_card (Open d))) (ap (λ (a : Reply). a.code) (opened_with d telling.data_length_lem))
    in
    let g = must_give constant_cryptogram [] law (Open d) (ap (λ (a : Reply). a.code) e) in
    not_zeros (sym (ap (λ (a : Reply). a.bytes) e) ∙ ap (λ (a : Answer). a.bytes) g ∙ tells)

-- stores every transaction as an AAC: demand 3 is false of it
pub stored_as_aac_lem : Demand3 (boxed stored_as_aac) → ⊥
stored_as_aac_lem law =
    let e : (stored_as_aac first_card (Open some_data)).card ≡ opened_card = must_show stored_as_aac (Open some_data ∷ []) law in
    let p : is_arqc (stored_as_aac first_card (Open some_data)).card.transaction.phase ≡ false =
    ap (λ (y : Reply). is_arqc (cond (eqb y.code 0) (stored y) y).card.transaction.phase) as_opened
    in
    false≢true (sym p ∙ ap (λ (r : Card). is_arqc r.transaction.phase) e ∙ ap (λ (y : Reply). is_arqc y.card.transaction.phase) as_opened)

-- forgets the cryptogram at Counters: demand 3 is false of it
kept_by : {r : Card} {a : Reply} → Change r Counters a → a.card ≡ r
kept_by (quiet q e) = refl
kept_by counted = refl

pub forgets_cryptogram : Demand3 (boxed wipes) → ⊥
forgets_cryptogram law =
    let d = telling.its_data in
    let cs = Open d ∷ Counters ∷ [] in
    let r = (step first_card (Open d)).card in
    let s : sound r ≡ true = keeps first_sound (change first_card first_sound (Open d)) in
    let e : with_transaction r (wiped r.transaction) ≡ (step r Counters).card = must_show wipes cs law in
    not_zeros
    (ap (λ (c : Card). c.transaction.cryptogram) (e ∙ kept_by (change r s Counters))
    ∙ ap (λ (a : Reply). a.card.transaction.cryptogram) (opened_with d telling.data_length_lem)
    ∙ tells)

-- gives the try back on Withdraw: demand 3 is false of it
pub gives_back_lem : Demand3 (boxed gives_back) → ⊥
gives_back_lem law =
    let e : (gives_back first_card Withdraw).card ≡ (step first_card Withdraw).card = must_show gives_back (Withdraw ∷ []) law in
    eqb-false 3 2 refl (ap (λ (r : Card). r.tries) e ∙ ap (λ (a : Reply). a.card.tries) (withdraws first_card first_sound))
