-- A fresh record is sound, and a sound record stays sound. Assumes nothing.
use Prim.Native.Nat.{ℕ, ◌-◌}
use mathlib.Core.Path.{◌≡◌, refl, sym, ap, ◌∙◌}
use mathlib.Core.List.{List, [], ◌∷◌}
use mathlib.Core.Bool.{Bool, true, false, not, ◌&&◌, ◌||◌, cond, and-eq-true_iff, true≢false, false≢true}
use lib.Dec.{leb, eqb}
use lib.ListN.{replicate}
use native.Mathlib.Omega.{arith}
use borrow.Author.Tests.{not-true, eqb-true, eqb-false, ne_eqb, le-leb, leb-true}
use Rattle.std.specs.Prelude.{Result, Ok, Err, is_err}
use Rattle.std.specs.Result.{result_unwrap_or}
use Rattle.answers.specs.declared.Refusal.{Refusal}
use Rattle.answers.specs.declared.Refusal.TheVariants.{Input, PinFormat}
use Rattle.pin.specs.declared.Pin.{Pin}
use Rattle.octets.specs.Same.{same}
use Rattle.octets.proofs.SameLaws.{same_true}
use Rattle.shapes.specs.declared.command.Command.{Command}
use Rattle.shapes.specs.declared.command.Command.TheVariants.{SetPin, SetMark, ClearMark}
use Rattle.pin.specs.PinBlock.{pin_fits}
use Rattle.pin.specs.Answers.{read_block}
use Rattle.pin.proofs.BlockLaws.{fits}
use Rattle.pin.proofs.FoundLaws.{read_fits, deciphered-fits}
use Rattle.transaction.specs.declared.Phase.{Phase}
use Rattle.transaction.specs.declared.Phase.TheVariants.{Idle, Arqc, Aac}
use Rattle.transaction.specs.declared.PendingMark.{PendingMark}
use Rattle.transaction.specs.declared.PendingMark.TheVariants.{Nothing, Set, Clear}
use Rattle.transaction.specs.declared.Transaction.{Transaction}
use Rattle.transaction.specs.Transaction.{is_open, is_unmarked, none, pending_fits, rest_fits, phase_for}
use Rattle.card.specs.declared.Card.{Card}
use Rattle.card.specs.declared.Reply.{Reply}
use Rattle.card.specs.Record.{sound, kept, with_transaction, full_tries}
use Rattle.card.specs.Calls.{Call, Withdraw, read, Order, new_pin, new_mark, orders, pend, pend_all, settled, judged_under, unread, strikes, first_struck, plain, settled_record, tries_after}
use Rattle.card.specs.Personalise.{pin_in, fresh, loaded_by, personalised}
use Rattle.history.proofs.Own.{box, run}
use Rattle.history.specs.Run.{Loading, personalised_with}
use Rattle.history.specs.Ledger.{loaded}
use Rattle.history.specs.Demand2.{Accepts}
use Rattle.history.specs.Demand3.{Fresh}
use Rattle.history.proofs.Change.{format_so, step_by, Change, change, quiet, idle, early, counted, opened, answered, spoiled, differed, took, dropped, closed, withdrew, spared, misread, mistaken, recognised}

and : {a b : Bool} → a ≡ true → b ≡ true → (a && b) ≡ true
and {a} {b} e f = rw (e, f)

pub neither : (a b : Bool) → (a || b) ≡ false → (a ≡ false) × (b ≡ false)
neither true b e = absurd (true≢false e)
neither false b e = (refl, e)

pub pin_count : (n : ℕ) (p : List ℕ) → pin_fits 0 n p ≡ true → eqb n 0 ≡ false
pin_count n p e = let f = fits 0 n p e in let l = f.least in ne_eqb n 0 (λ (z : n ≡ 0). omega arith)

-- the parts of soundness
pub record Parts (r : Card) : Type 0 where
  pub pinned : pin_fits 0 r.count r.pin ≡ true
  pub tried : leb r.tries full_tries ≡ true
  pub pended : pending_fits r.transaction.count r.transaction.pin ≡ true
  pub rested : rest_fits r.transaction ≡ true

pub parts : (r : Card) → sound r ≡ true → Parts r
unfolding sound
parts r e =
    let p = (and-eq-true_iff (pin_fits 0 r.count r.pin) _).0 e in
    let n = (and-eq-true_iff (leb r.tries full_tries) _).0 p.1 in
    let q = (and-eq-true_iff (pending_fits r.transaction.count r.transaction.pin) _).0 n.1 in
    record { pinned = p.0; tried = n.0; pended = q.0; rested = q.1 }

pub whole : (r : Card) → Parts r → sound r ≡ true
unfolding sound
whole r p = and p.pinned (and p.tried (and p.pended p.rested))

open_rests : (t : Transaction) → is_open t.phase ≡ true → rest_fits t ≡ true
unfolding rest_fits
open_rests t e = rw e

-- with none open, a record with a PIN is sound
pub resting : (r : Card) → pin_fits 0 r.count r.pin ≡ true → leb r.tries full_tries ≡ true → sound (with_transaction r none) ≡ true
unfolding sound pending_fits rest_fits same
resting r p n = and p (and n refl)

-- what a command orders is fit
unfoldable pub Fit : Order → Type 0
Fit (new_pin p n) = pin_fits 0 n p ≡ true
Fit (new_mark b) = Unit {0}

unfoldable pub Fits : List Order → Type 0
Fits [] = Unit {0}
Fits (o ∷ os) = Fit o × Fits os

set_fits : (x : Result Pin Refusal) → ((p : Pin) → x ≡ Ok p → pin_fits 0 p.count p.digits ≡ true) → unread (Ok SetPin) x ≡ false → Fits (orders (Ok SetPin) x)
unfolding Fit Fits
set_fits (Ok p) f e = (f p refl, tt)
set_fits (Err q) f e = absurd (true≢false e)

pub orders_fit : {r : Card} {h m : List ℕ} → Accepts r h m → Fits (orders (read r h m).command (read r h m).block)
unfolding Fit Fits
orders_fit {r} {h} {m} a = rw a.instruction (go a.command (format_so a))
  where
    go : (c : Command) → unread (Ok c) (read r h m).block ≡ false → Fits (orders (Ok c) (read r h m).block)
    go SetPin e = set_fits (read r h m).block (λ p. deciphered-fits _ _ p) e
    go SetMark e = (tt, tt)
    go ClearMark e = (tt, tt)

pin_pending : (n : ℕ) (p : List ℕ) → pin_fits 0 n p ≡ true → pending_fits n p ≡ true
unfolding pending_fits
pin_pending n p e = rw (pin_count n p e) e

pend-sound : (r : Card) (o : Order) → Parts r → is_open r.transaction.phase ≡ true → Fit o → Parts (with_transaction r (pend o r.transaction))
unfolding Fit
pend-sound r (new_pin p n) s a f = record { pinned = s.pinned; tried = s.tried; pended = pin_pending n p f; rested = open_rests _ a }
pend-sound r (new_mark b) s a f = record { pinned = s.pinned; tried = s.tried; pended = s.pended; rested = open_rests _ a }

pend_open : (o : Order) (t : Transaction) → is_open (pend o t).phase ≡ is_open t.phase
pend_open (new_pin p n) t = refl
pend_open (new_mark b) t = refl

pend_all_sound : (os : List Order) (r : Card) → Parts r → is_open r.transaction.phase ≡ true → Fits os → Parts (with_transaction r (pend_all os r.transaction))
unfolding Fits
pend_all_sound [] r s a f = s
pend_all_sound (o ∷ os) r s a f =
    pend_all_sound os (with_transaction r (pend o r.transaction)) (pend-sound r o s a f.0) (pend_open o r.transaction ∙ a) f.1

laid_fits : (r : Card) → Parts r → pin_fits 0 (settled r.transaction (kept r)).count (settled r.transaction (kept r)).pin ≡ true
unfolding settled pending_fits
laid_fits r s = go (eqb r.transaction.count 0) s.pended
  where
    go : (b : Bool) → cond b (same r.transaction.pin (replicate 12 0)) (pin_fits 0 r.transaction.count r.transaction.pin) ≡ true
        → pin_fits 0 (cond b r.count r.transaction.count) (cond b r.pin r.transaction.pin) ≡ true
    go true e = s.pinned
    go false e = e

tries_fit : (r : Card) → Parts r → leb (tries_after r.transaction r.tries) full_tries ≡ true
tries_fit r s = go (eqb r.transaction.count 0)
  where
    go : (b : Bool) → leb (cond b r.tries full_tries) full_tries ≡ true
    go true = s.tried
    go false = refl

one_fewer : (n : ℕ) → leb n 3 ≡ true → leb (n - 1) 3 ≡ true
one_fewer n e = let h = leb-true n 3 e in le-leb (n - 1) 3 (omega arith)

pub phase_open : (b : Bool) → is_open (phase_for b) ≡ true
phase_open true = refl
phase_open false = refl

pub keeps : {r : Card} {c : Call} {a : Reply} → sound r ≡ true → Change r c a → sound a.card ≡ true
unfolding pending_fits same
keeps {r} s (quiet q e) = s
keeps {r} s (idle e) = s
keeps {r} s (early e) = s
keeps {r} s counted = s
keeps {r} s (opened e) = whole _ (record { pinned = (parts r s).pinned; tried = (parts r s).tried; pended = refl; rested = open_rests _ (phase_open r.mark) })
keeps {r} s (answered e) = whole _ (record { pinned = (parts r s).pinned; tried = (parts r s).tried; pended = (parts r s).pended; rested = (parts r s).rested })
keeps {r} s (spoiled q e n f) = whole _ (record { pinned = (parts r s).pinned; tried = (parts r s).tried; pended = (parts r s).pended; rested = open_rests _ e })
keeps {r} s (differed w f) = whole _ (record { pinned = (parts r s).pinned; tried = (parts r s).tried; pended = (parts r s).pended; rested = open_rests _ w.phase })
keeps {r} s (took a) = whole _ (pend_all_sound _ r (parts r s) a.phase (orders_fit a))
keeps {r} s (dropped e p) = resting r (parts r s).pinned (parts r s).tried
keeps {r} s (closed e p) = resting (settled_record r r.transaction) (laid_fits r (parts r s)) (tries_fit r (parts r s))
keeps {r} s withdrew = resting r (parts r s).pinned (parts r s).tried
keeps {r} s (spared q e n) = s
keeps {r} s misread = whole _ (record { pinned = (parts r s).pinned; tried = (parts r s).tried; pended = (parts r s).pended; rested = (parts r s).rested })
keeps {r} s mistaken =
    whole _
    (record { pinned = (parts r s).pinned; tried = one_fewer r.tries (parts r s).tried; pended = (parts r s).pended; rested = (parts r s).rested })
keeps {r} s recognised = whole _ (record { pinned = (parts r s).pinned; tried = refl; pended = (parts r s).pended; rested = (parts r s).rested })

-- a record that starts sound stays sound; a fresh one is
pub sound_law : (r : Card) (cs : List Call) → sound r ≡ true → sound (run r cs) ≡ true
sound_law r [] s = s
sound_law r (c ∷ cs) s = sound_law (box r c).card cs (keeps s (change r s c))

-- the record that an accepted personalisation makes
abbrev pub fresh_of : Loading → Card
fresh_of l = fresh l.ac l.smi l.smc l.atc l.counters l.mark l.block l.tries

-- a block that is read is of the PIN in it
pin_so : (b : List ℕ) (p : Pin) → read_block b ≡ Ok p → pin_in b ≡ p
pin_so b p e = ap (λ (x : Result Pin Refusal). result_unwrap_or x (record { digits = replicate 12 0; count = 0 })) e

-- a fresh record: what personalisation accepts
pub record Taken (l : Loading) : Type 0 where
  pub mark_so : leb l.mark 1 ≡ true
  pub tries_so : leb l.tries full_tries ≡ true
  pub block_so : read_block l.block ≡ Ok (pin_in l.block)

pub taken : (l : Loading) → Fresh l → Taken l
unfolding personalised
taken l f = go (leb l.mark 1) (leb l.tries full_tries) (read_block l.block) refl refl refl f
  where
    go : (b n : Bool) (x : Result Pin Refusal) → leb l.mark 1 ≡ b → leb l.tries full_tries ≡ n → read_block l.block ≡ x
        → (loaded_by (fresh_of l) (first_struck (strikes (not b) Input ∷ strikes (not n) Input ∷ strikes (is_err x) PinFormat ∷ []))).code ≡ 0 → Taken l
    go true true (Ok p) eb en ek z = record { mark_so = eb; tries_so = en; block_so = ek ∙ ap Ok (sym (pin_so l.block p ek)) }
    go true true (Err q) eb en ek z = absurd (eqb-false 9 0 refl z)
    go true false k eb en ek z = absurd (eqb-false 1 0 refl z)
    go false n k eb en ek z = absurd (eqb-false 1 0 refl z)

pub started : (l : Loading) → Fresh l → personalised_with l ≡ plain (fresh_of l) 0
unfolding personalised
started l f = rw ((taken l f).mark_so, (taken l f).tries_so, (taken l f).block_so)

pub fresh_law : (l : Loading) → Fresh l → sound (loaded l) ≡ true
fresh_law l f = ap (λ (a : Reply). sound a.card) (started l f) ∙ resting (fresh_of l) (read_fits l.block (pin_in l.block) (taken l f).block_so) (taken l f).tries_so

-- with none open, a sound record has no transaction, and a withdrawal changes nothing
none_by : (p : Phase) (g q : List ℕ) (n : ℕ) (m : PendingMark) (t : Bool) → p ≡ Idle → g ≡ replicate 8 0 → q ≡ replicate 12 0 → n ≡ 0 → m ≡ Nothing → t ≡ false
    → record { phase = p; cryptogram = g; pin = q; count = n; mark = m; spoilt = t } ≡ none
none_by p g q n m t ep eg eq en em et = rw (ep, eg, eq, en, em, et)

idle_phase : (p : Phase) → is_open p ≡ false → p ≡ Idle
idle_phase Idle e = refl
idle_phase Arqc e = absurd (true≢false e)
idle_phase Aac e = absurd (true≢false e)

unmarked : (m : PendingMark) → is_unmarked m ≡ true → m ≡ Nothing
unmarked Nothing e = refl
unmarked Set e = absurd (false≢true e)
unmarked Clear e = absurd (false≢true e)

pub idle_none : (t : Transaction) → is_open t.phase ≡ false → rest_fits t ≡ true → pending_fits t.count t.pin ≡ true → t ≡ none
unfolding rest_fits pending_fits
idle_none t o e f =
    let a = (and-eq-true_iff (same t.cryptogram (replicate 8 0)) _).0 (rw o at e) in
    let b = (and-eq-true_iff (eqb t.count 0) _).0 a.1 in
    let c = (and-eq-true_iff (is_unmarked t.mark) _).0 b.1 in
    none_by _ _ _ _ _ _ (idle_phase _ o) (same_true _ _ a.0) (same_true _ _ (rw b.0 at f)) (eqb-true _ _ b.0) (unmarked _ c.0) (not-true t.spoilt c.1)

-- 01, Withdraw: "With none open it is accepted and changes nothing."
pub withdrawn_idle : (r : Card) → sound r ≡ true → is_open r.transaction.phase ≡ false → box r Withdraw ≡ plain r 0
unfolding judged_under
withdrawn_idle r s o =
    let p = parts r s in
    step_by r s Withdraw ∙ ap (λ (t : Transaction). plain (with_transaction r t) 0) (sym (idle_none r.transaction o p.rested p.pended))
