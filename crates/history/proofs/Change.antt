-- What a call does to a sound record, case by case: the conditions of every call opened once. Assumes nothing.
use Prim.Native.Nat.{ℕ, ◌-◌}
use mathlib.Core.Path.{◌≡◌, refl, sym, ap, subst, ◌∙◌}
use mathlib.Core.List.{List, [], ◌∷◌}
use mathlib.Core.Bool.{Bool, true, false, not, ◌&&◌, ◌||◌, true≢false, false≢true}
use lib.ListN.{length}
use lib.Dec.{eqb}
use borrow.Author.Tests.{eqb-true, eqb-false}
use Rattle.std.specs.Prelude.{Result, Ok, Err, is_ok, is_err}
use Rattle.answers.specs.declared.Refusal.{Refusal}
use Rattle.answers.specs.declared.Refusal.TheVariants.{Input, ShapeWrong, PhaseWrong, CounterFull, CodeDiffers, PinFormat, SpoiltClosed, ArpcDiffers, WrongPin, NoTries}
use Rattle.answers.specs.Refusals.{number}
use Rattle.octets.specs.Same.{same}
use Rattle.shapes.specs.declared.command.Command.{Command}
use Rattle.shapes.specs.declared.command.Command.TheVariants.{SetPin, SetMark, ClearMark}
use Rattle.shapes.specs.Shape.{length_of, tag_of, data_of, shape as hasShape}
use Rattle.shapes.specs.Command.{command_of}
use Rattle.shapes.proofs.CommandLaws.{why_unlisted_lem}
use Rattle.derive.specs.Derivation.{derived, card_label}
use Rattle.pin.specs.declared.Pin.{Pin}
use Rattle.pin.specs.Answers.{decipher_pin}
use Rattle.message.specs.Code.{code_fits}
use Rattle.transaction.specs.declared.Phase.{Phase}
use Rattle.transaction.specs.declared.Phase.TheVariants.{Idle, Arqc, Aac}
use Rattle.transaction.specs.Transaction.{is_open, none, spoilt, is_arqc}
use Rattle.card.specs.declared.Card.{Card}
use Rattle.card.specs.declared.Reply.{Reply}
use Rattle.card.specs.Record.{sound as isSound, with_transaction, with_counters, one_failed, with_tries, one_misread, full_tries}
use Rattle.card.specs.Keys.{smi_key, smc_key}
use Rattle.card.specs.Calls.{Call, Open, IssuerAnswer, Script, Close, Withdraw, Counters, CheckPin, is_kept}
use Rattle.card.specs.Calls.{Verdict, refuse, strikes, first_struck, read, unlisted, why_unlisted, unread, judged_script, arpc_for, judged, judged_under, gives, accepted, due_by, after_by, due_under, after_under, reply, plain, step}
use Rattle.history.specs.Demand2.{Accepts, Differs, block_read}

no_command : (q : Refusal) (c : Command) → ◌≡◌ {A = Result Command Refusal} (Err q) (Ok c) → ⊥
no_command q c e = true≢false (ap unlisted e)

-- the table's words for the checks of a message, and the demands'
unread_so : (c : Command) (x : Result Pin Refusal) → (c ≡ SetPin → is_ok x ≡ true) → unread (Ok c) x ≡ false
unread_so SetPin (Ok p) f = refl
unread_so SetPin (Err q) f = absurd (false≢true (f refl))
unread_so SetMark x f = refl
unread_so ClearMark x f = refl

read_so : (c : Command) (x : Result Pin Refusal) → unread (Ok c) x ≡ false → c ≡ SetPin → is_ok x ≡ true
read_so c (Ok p) e z = refl
read_so c (Err q) e z = absurd (true≢false (subst (λ (k : Command). unread (Ok k) (Err q) ≡ false) z e))

pub same_code : (r : Card) (h m : List ℕ) → code_fits (smi_key r) h m ≡ code_fits (derived r.smi card_label r.transaction.cryptogram) h m
unfolding smi_key
same_code r h m = refl

pub same_block : (r : Card) (b : List ℕ) → decipher_pin (smc_key r) b ≡ block_read r b
unfolding smc_key
same_block r b = refl

pub format_so : {r : Card} {h m : List ℕ} (a : Accepts r h m) → unread (Ok a.command) (read r h m).block ≡ false
unfolding smc_key
format_so {r} {h} {m} a = unread_so a.command (read r h m).block a.format

-- the calls whose refusals change nothing, and end nothing
abbrev pub mild : Call → Bool
mild (Open d) = true
mild (IssuerAnswer arpc csu) = true
mild (Script h m) = false
mild Close = false
mild Withdraw = false
mild Counters = true
mild (CheckPin b) = false

pub data Change (r : Card) : Call → Reply → Type 0 where
  quiet : {c : Call} (q : Refusal) → mild c ≡ true → Change r c (plain r (number q))
  idle : is_open r.transaction.phase ≡ false → Change r Close (plain r 6)
  early : {h m : List ℕ} → is_open r.transaction.phase ≡ false → Change r (Script h m) (plain r 6)
  counted : Change r Counters (reply (accepted r Counters) (gives r Counters))
  opened : {d : List ℕ} → is_open r.transaction.phase ≡ false → Change r (Open d) (reply (accepted r (Open d)) (gives r (Open d)))
  answered : {x u : List ℕ} → is_open r.transaction.phase ≡ true → Change r (IssuerAnswer x u) (plain (accepted r (IssuerAnswer x u)) 0)
  spoiled : {h m : List ℕ} (q : Refusal) → is_open r.transaction.phase ≡ true → eqb (number q) 8 ≡ false → (Accepts r h m → ⊥) → Change r (Script h m) (plain (with_transaction r (spoilt r.transaction)) (number q))
  differed : {h m : List ℕ} → Differs r h m → (Accepts r h m → ⊥) → Change r (Script h m) (plain (with_transaction (with_counters r r.atc (one_failed r.counters)) (spoilt r.transaction)) 8)
  took : {h m : List ℕ} → Accepts r h m → Change r (Script h m) (plain (accepted r (Script h m)) 0)
  dropped : is_open r.transaction.phase ≡ true → r.transaction.spoilt ≡ true → Change r Close (plain (with_transaction r none) 10)
  closed : is_open r.transaction.phase ≡ true → r.transaction.spoilt ≡ false → Change r Close (plain (accepted r Close) 0)
  withdrew : Change r Withdraw (plain (with_transaction r none) 0)
  spared : {b : List ℕ} (q : Refusal) → eqb (number q) 9 ≡ false → eqb (number q) 14 ≡ false → Change r (CheckPin b) (plain r (number q))
  misread : {b : List ℕ} → Change r (CheckPin b) (plain (with_counters r r.atc (one_misread r.counters)) 9)
  mistaken : {b : List ℕ} → Change r (CheckPin b) (plain (with_tries r (r.tries - 1)) 14)
  recognised : {b : List ℕ} → Change r (CheckPin b) (plain (with_tries r full_tries) 0)

arqc_open : (p : Phase) → is_arqc p ≡ true → is_open p ≡ true
arqc_open Idle e = e
arqc_open Arqc e = refl
arqc_open Aac e = refl

-- the reply to a call of a sound record, by the verdict
abbrev pub by : Card → Call → Verdict → Reply
by r c v = reply (after_by r c v) (due_by r c v)

module _ (r : Card) (ok : isSound r ≡ true) where
  pub step_by : (c : Call) → step r c ≡ by r c (judged r c)
  unfolding due_under after_under
  step_by c = rw ok

  of_open : (d : List ℕ) → Change r (Open d) (by r (Open d) (judged r (Open d)))
  unfolding judged_under
  of_open d = go (is_open r.transaction.phase) (eqb (length d) 65) (eqb r.atc 65535 || eqb r.counters.session 65535) refl
    where
      go : (o l f : Bool) → is_open r.transaction.phase ≡ o
          → Change r (Open d) (by r (Open d) (first_struck (strikes o PhaseWrong ∷ strikes (not l) Input ∷ strikes f CounterFull ∷ [])))
      go true l f e = quiet PhaseWrong refl
      go false false f e = quiet Input refl
      go false true true e = quiet CounterFull refl
      go false true false e = opened e

  of_answer : (x u : List ℕ) → Change r (IssuerAnswer x u) (by r (IssuerAnswer x u) (judged r (IssuerAnswer x u)))
  unfolding judged_under
  of_answer x u = go (is_arqc r.transaction.phase) (eqb (length x) 8 && eqb (length u) 4) (same x (arpc_for r u)) refl
    where
      go : (o l f : Bool) → is_arqc r.transaction.phase ≡ o
          → Change r (IssuerAnswer x u) (by r (IssuerAnswer x u) (first_struck (strikes (not o) PhaseWrong ∷ strikes (not l) Input ∷ strikes (not f) ArpcDiffers ∷ [])))
      go false l f e = quiet PhaseWrong refl
      go true false f e = quiet Input refl
      go true true false e = quiet ArpcDiffers refl
      go true true true e = answered (arqc_open r.transaction.phase e)

  of_close : Change r Close (by r Close (judged r Close))
  unfolding judged_under
  of_close = go (is_open r.transaction.phase) r.transaction.spoilt refl refl
    where
      go : (o s : Bool) → is_open r.transaction.phase ≡ o → r.transaction.spoilt ≡ s
          → Change r Close (by r Close (first_struck (strikes (not o) PhaseWrong ∷ strikes s SpoiltClosed ∷ [])))
      go false s e p = idle e
      go true true e p = dropped e p
      go true false e p = closed e p

  of_counters : Change r Counters (by r Counters (judged r Counters))
  unfolding judged_under
  of_counters = go (is_open r.transaction.phase)
    where
      go : (o : Bool) → Change r Counters (by r Counters (first_struck (strikes (not o) PhaseWrong ∷ [])))
      go false = quiet PhaseWrong refl
      go true = counted

  of_check : (b : List ℕ) → Change r (CheckPin b) (by r (CheckPin b) (judged r (CheckPin b)))
  unfolding judged_under
  of_check b =
      let x = decipher_pin (smc_key r) b in
      go (is_open r.transaction.phase) (eqb (length b) 8) (eqb r.tries 0) (eqb r.counters.decipherments 65535) (is_err x) (is_kept r x)
    where
      go : (o l t f p k : Bool)
          → Change r (CheckPin b)
          (by r (CheckPin b)
          (first_struck
          (strikes (not o) PhaseWrong
          ∷ strikes (not l) Input
          ∷ strikes t NoTries
          ∷ strikes f CounterFull
          ∷ strikes p PinFormat
          ∷ strikes (not k) WrongPin
          ∷ [])))
      go false l t f p k = spared PhaseWrong refl refl
      go true false t f p k = spared Input refl refl
      go true true true f p k = spared NoTries refl refl
      go true true false true p k = spared CounterFull refl refl
      go true true false false true k = misread
      go true true false false false false = mistaken
      go true true false false false true = recognised

  of_withdraw : Change r Withdraw (by r Withdraw (judged r Withdraw))
  unfolding judged_under
  of_withdraw = withdrew

  module _ (h m : List ℕ) where
    idles : is_open r.transaction.phase ≡ false → Change r (Script h m) (by r (Script h m) (refuse PhaseWrong))
    idles e = rw e (early e)

    spoils : (q : Refusal) → is_open r.transaction.phase ≡ true → eqb (number q) 8 ≡ false → (Accepts r h m → ⊥) → Change r (Script h m) (by r (Script h m) (refuse q))
    spoils q o n f = rw (o, n) (spoiled q o n f)

    differs : Differs r h m → (Accepts r h m → ⊥) → Change r (Script h m) (by r (Script h m) (refuse CodeDiffers))
    differs w f = rw w.phase (differed w f)

    of_script : Change r (Script h m) (by r (Script h m) (judged r (Script h m)))
    unfolding judged_under judged_script
    of_script =
        go (is_open r.transaction.phase) (eqb (length h) 4) (hasShape m) (command_of h (tag_of m) (length_of m)) (eqb r.counters.failures 65535) (code_fits (smi_key r) h m)
        (unread (command_of h (tag_of m) (length_of m)) (read r h m).block) refl refl refl refl refl refl refl
      where
        go : (o l x : Bool) (q : Result Command Refusal) (f k p : Bool) → is_open r.transaction.phase ≡ o → eqb (length h) 4 ≡ l → hasShape m ≡ x → command_of h (tag_of m) (length_of m) ≡ q
            → eqb r.counters.failures 65535 ≡ f → code_fits (smi_key r) h m ≡ k → unread (command_of h (tag_of m) (length_of m)) (read r h m).block ≡ p
            → Change r (Script h m)
            (by r (Script h m)
            (first_struck
            (strikes (not o) PhaseWrong
            ∷ strikes (not l) Input
            ∷ strikes (not x) ShapeWrong
            ∷ strikes (unlisted q) (why_unlisted q)
            ∷ strikes f CounterFull
            ∷ strikes (not k) CodeDiffers
            ∷ strikes p PinFormat
            ∷ [])))
        go false l x q f k p eo el ex eq ef ek ep = idles eo
        go true false x q f k p eo el ex eq ef ek ep = spoils Input eo refl (λ a. eqb-false _ _ el a.header)
        go true true false q f k p eo el ex eq ef ek ep = spoils ShapeWrong eo refl (λ a. false≢true (sym ex ∙ a.shape))
        go true true true (Err w) f k p eo el ex eq ef ek ep =
            spoils w eo (ap (λ (q : Refusal). eqb (number q) 8) (why_unlisted_lem h (tag_of m) (length_of m) w eq)) (λ a. no_command w a.command (sym eq ∙ a.instruction))
        go true true true (Ok c) true k p eo el ex eq ef ek ep = spoils CounterFull eo refl (λ a. a.counter (eqb-true _ _ ef))
        go true true true (Ok c) false false p eo el ex eq ef ek ep =
            differs
            (record {
              sound = ok;
              phase = eo;
              header = eqb-true _ _ el;
              shape = ex;
              command = c;
              instruction = eq;
              counter = eqb-false _ _ ef;
              code = sym (same_code r h m) ∙ ek;
            })
            (λ a. false≢true (sym ek ∙ same_code r h m ∙ a.code))
        go true true true (Ok c) false true true eo el ex eq ef ek ep =
            spoils PinFormat eo refl (λ a. true≢false (sym ep ∙ rw a.instruction (format_so a)))
        go true true true (Ok c) false true false eo el ex eq ef ek ep =
            took
            (record {
              sound = ok;
              phase = eo;
              header = eqb-true _ _ el;
              shape = ex;
              command = c;
              instruction = eq;
              counter = eqb-false _ _ ef;
              code = sym (same_code r h m) ∙ ek;
              format = λ z. sym (ap is_ok (same_block r (data_of m))) ∙ read_so c (read r h m).block (sym (ap (λ (l : Result Command Refusal). unread l (read r h m).block) eq) ∙ ep) z;
            })

  of_call : (c : Call) → Change r c (by r c (judged r c))
  of_call (Open d) = of_open d
  of_call (IssuerAnswer x u) = of_answer x u
  of_call (Script h m) = of_script h m
  of_call Close = of_close
  of_call Withdraw = of_withdraw
  of_call Counters = of_counters
  of_call (CheckPin b) = of_check b

  pub change : (c : Call) → Change r c (step r c)
  change c = subst (Change r c) (sym (step_by c)) (of_call c)
