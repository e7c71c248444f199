-- Demand 3: after any run our record is the one that the ledger says. Assumes nothing.
use Prim.Native.Nat.{ℕ, ◌+◌, ◌-◌}
use native.Mathlib.Nat.{add-zero}
use native.Mathlib.Omega.{arith}
use mathlib.Core.Path.{◌≡◌, refl, sym, ap, ap₂, subst, ◌∙◌}
use mathlib.Core.List.{List, [], ◌∷◌, ◌++◌}
use mathlib.Core.Bool.{Bool, true, false, ◌&&◌, ◌||◌, cond, and-false, or-true, or-false, false≢true}
use lib.Dec.{eqb}
use lib.ListN.{replicate}
use Rattle.answers.specs.declared.Refusal.{Refusal}
use Rattle.answers.specs.Refusals.{number}
use Rattle.shapes.specs.Shape.{length_of, tag_of, data_of}
use Rattle.shapes.specs.Command.{command_of}
use Rattle.derive.specs.Derivation.{derived, card_label}
use Rattle.pin.specs.Answers.{decipher_pin}
use Rattle.cryptogram.specs.Answers.{kind_number}
use Rattle.transaction.specs.declared.Phase.{Phase}
use Rattle.transaction.specs.declared.Phase.TheVariants.{Arqc, Aac}
use Rattle.transaction.specs.declared.PendingMark.TheVariants.{Nothing}
use Rattle.transaction.specs.declared.Transaction.{Transaction}
use Rattle.transaction.specs.Transaction.{is_open, none, spoilt, kind_for, phase_for}
use Rattle.card.specs.declared.Card.{Card}
use Rattle.card.specs.declared.Reply.{Reply}
use Rattle.card.specs.Record.{sound, Kept, kept, with_transaction, with_kept, with_counters, with_tries, full_tries, counters_at}
use Rattle.card.specs.Keys.{smc_key}
use Rattle.card.specs.Calls.{Call, Open, IssuerAnswer, Script, Close, Withdraw, Counters, read, grown, cryptogram_for, only, due, Order, new_pin, new_mark, orders, pend, pend_all, settled, CheckPin, tries_after}
use Rattle.history.proofs.Own.{any, box, entry, run}
use Rattle.history.specs.Run.{Loading, did, History, frame, was, is_opening as isOpened, is_answer as isAnswered, is_failure as isFailed, is_misread, is_mistaken}
use Rattle.history.specs.Ledger.{orders_in, Page, turned, page, made_good, good, obeyed, all_obeyed, kept_by, atc_by, counters_by, transaction_by, must_be, ledger, loaded, after_calls, new_pin_in, restores, tries_by}
use Rattle.history.specs.Demand3.{Fresh}
use Rattle.history.proofs.Change.{mild, Change, change, quiet, idle, early, counted, opened, answered, spoiled, differed, took, dropped, closed, withdrew, spared, misread, mistaken, recognised}
use Rattle.answers.proofs.Laws.{not_zero}
use Rattle.history.proofs.Keeps.{parts, pin_count, idle_none, Fit, Fits, orders_fit, keeps, fresh_of, fresh_law, started}

-- orders, kept and pending
all_append : (x y : List Order) (k : Kept) → all_obeyed (x ++ y) k ≡ all_obeyed y (all_obeyed x k)
all_append [] y k = refl
all_append (o ∷ x) y k = all_append x y (obeyed o k)

pend-append : (x y : List Order) (t : Transaction) → pend_all (x ++ y) t ≡ pend_all y (pend_all x t)
pend-append [] y t = refl
pend-append (o ∷ x) y t = pend-append x y (pend o t)

pend-laid : (t : Transaction) (k : Kept) (o : Order) → Fit o → settled (pend o t) k ≡ obeyed o (settled t k)
unfolding settled Fit
pend-laid t k (new_pin p n) f = rw (pin_count n p f)
pend-laid t k (new_mark true) f = refl
pend-laid t k (new_mark false) f = refl

fits_append : (x y : List Order) → Fits x → Fits y → Fits (x ++ y)
unfolding Fits
fits_append [] y f g = g
fits_append (o ∷ x) y f g = (f.0, fits_append x y f.1 g)

all_laid : (os : List Order) (t : Transaction) (k : Kept) → Fits os → settled (pend_all os t) k ≡ all_obeyed os (settled t k)
unfolding Fits
all_laid [] t k f = refl
all_laid (o ∷ os) t k f = all_laid os (pend o t) k f.1 ∙ ap (all_obeyed os) (pend-laid t k o f.0)

-- an order leaves the phase, the cryptogram and the spoilt mark
record Left (s t : Transaction) : Type 0 where
  phase : s.phase ≡ t.phase
  cryptogram : s.cryptogram ≡ t.cryptogram
  spoil : s.spoilt ≡ t.spoilt

left : (os : List Order) (t : Transaction) → Left (pend_all os t) t
left [] t = record { phase = refl; cryptogram = refl; spoil = refl }
left (new_pin p n ∷ os) t = let a = left os (pend (new_pin p n) t) in record { phase = a.phase; cryptogram = a.cryptogram; spoil = a.spoil }
left (new_mark b ∷ os) t = let a = left os (pend (new_mark b) t) in record { phase = a.phase; cryptogram = a.cryptogram; spoil = a.spoil }

spoilt_all : (os : List Order) (t : Transaction) → spoilt (pend_all os t) ≡ pend_all os (spoilt t)
spoilt_all [] t = refl
spoilt_all (new_pin p n ∷ os) t = spoilt_all os (pend (new_pin p n) t)
spoilt_all (new_mark b ∷ os) t = spoilt_all os (pend (new_mark b) t)

kind_phase : (b : Bool) → cond (eqb (kind_number (kind_for b)) 0x80) Arqc Aac ≡ phase_for b
unfolding kind_number
kind_phase true = refl
kind_phase false = refl

-- a refusal is no accepted call, and of a mild call no failure
not_accepted : (f : ℕ) (c : Call) (q : Refusal) → was f 0 (did c (only (number q))) ≡ false
not_accepted f c q = rw (not_zero q) (and-false (eqb (frame c) f))

mild_failed : (c : Call) (n : ℕ) → mild c ≡ true → isFailed (did c (only n)) ≡ false
mild_failed (Open d) n e = refl
mild_failed (IssuerAnswer x u) n e = refl
mild_failed (Script h m) n e = absurd (false≢true e)
mild_failed Close n e = refl
mild_failed Withdraw n e = refl
mild_failed Counters n e = refl
mild_failed (CheckPin b) n e = absurd (false≢true e)

mild_misread : (c : Call) (n : ℕ) → mild c ≡ true → is_misread (did c (only n)) ≡ false
mild_misread (Open d) n e = refl
mild_misread (IssuerAnswer x u) n e = refl
mild_misread (Script h m) n e = refl
mild_misread Close n e = refl
mild_misread Withdraw n e = refl
mild_misread Counters n e = refl
mild_misread (CheckPin b) n e = absurd (false≢true e)

-- each counter after one call
atc_step : {r : Card} {c : Call} {a : Reply} → Change r c a → a.card.atc ≡ r.atc + cond (isOpened (entry c a)) 1 0
atc_step (quiet {c} q e) = rw (not_accepted 1 c q) (sym (add-zero _))
atc_step (idle e) = sym (add-zero _)
atc_step (early e) = sym (add-zero _)
atc_step counted = sym (add-zero _)
atc_step (opened e) = refl
atc_step (answered e) = sym (add-zero _)
atc_step (spoiled q e n f) = sym (add-zero _)
atc_step (differed e f) = sym (add-zero _)
atc_step (took a) = sym (add-zero _)
atc_step (dropped e p) = sym (add-zero _)
atc_step (closed e p) = sym (add-zero _)
atc_step withdrew = sym (add-zero _)
atc_step (spared {b} q e n) = sym (add-zero _)
atc_step misread = sym (add-zero _)
atc_step mistaken = sym (add-zero _)
atc_step recognised = sym (add-zero _)

failures_step : {r : Card} {c : Call} {a : Reply} → Change r c a → a.card.counters.failures ≡ r.counters.failures + cond (isFailed (entry c a)) 1 0
failures_step (quiet {c} q e) = rw (mild_failed c (number q) e) (sym (add-zero _))
failures_step (idle e) = sym (add-zero _)
failures_step (early e) = sym (add-zero _)
failures_step counted = sym (add-zero _)
failures_step (opened e) = sym (add-zero _)
failures_step (answered e) = sym (add-zero _)
failures_step (spoiled q e n f) = rw n (sym (add-zero _))
failures_step (differed e f) = refl
failures_step (took a) = sym (add-zero _)
failures_step (dropped e p) = sym (add-zero _)
failures_step (closed e p) = sym (add-zero _)
failures_step withdrew = sym (add-zero _)
failures_step (spared {b} q e n) = sym (add-zero _)
failures_step misread = sym (add-zero _)
failures_step mistaken = sym (add-zero _)
failures_step recognised = sym (add-zero _)

session_step : {r : Card} {c : Call} {a : Reply} → Change r c a
    → a.card.counters.session ≡ cond (isAnswered (entry c a)) 0 (r.counters.session + cond (isOpened (entry c a)) 1 0)
session_step (quiet {c} q e) = rw (not_accepted 2 c q, not_accepted 1 c q) (sym (add-zero _))
session_step (idle e) = sym (add-zero _)
session_step (early e) = sym (add-zero _)
session_step counted = sym (add-zero _)
session_step (opened e) = refl
session_step (answered e) = refl
session_step (spoiled q e n f) = sym (add-zero _)
session_step (differed e f) = sym (add-zero _)
session_step (took a) = sym (add-zero _)
session_step (dropped e p) = sym (add-zero _)
session_step (closed e p) = sym (add-zero _)
session_step withdrew = sym (add-zero _)
session_step (spared {b} q e n) = sym (add-zero _)
session_step misread = sym (add-zero _)
session_step mistaken = sym (add-zero _)
session_step recognised = sym (add-zero _)

misreads_step : {r : Card} {c : Call} {a : Reply} → Change r c a → a.card.counters.decipherments ≡ r.counters.decipherments + cond (is_misread (entry c a)) 1 0
misreads_step (quiet {c} q e) = rw (mild_misread c (number q) e) (sym (add-zero _))
misreads_step (idle e) = sym (add-zero _)
misreads_step (early e) = sym (add-zero _)
misreads_step counted = sym (add-zero _)
misreads_step (opened e) = sym (add-zero _)
misreads_step (answered e) = sym (add-zero _)
misreads_step (spoiled q e n f) = sym (add-zero _)
misreads_step (differed e f) = sym (add-zero _)
misreads_step (took a) = sym (add-zero _)
misreads_step (dropped e p) = sym (add-zero _)
misreads_step (closed e p) = sym (add-zero _)
misreads_step withdrew = sym (add-zero _)
misreads_step (spared q e n) = rw e (sym (add-zero _))
misreads_step misread = refl
misreads_step mistaken = sym (add-zero _)
misreads_step recognised = sym (add-zero _)

quiet_turned : (r : Card) (p : Page) (c : Call) (q : Refusal) → mild c ≡ true → turned r (did c (only (number q))) p ≡ p
quiet_turned r p (Open d) q e = rw (not_zero q)
quiet_turned r p (IssuerAnswer x u) q e = refl
quiet_turned r p (Script h m) q e = absurd (false≢true e)
quiet_turned r p Close q e = absurd (false≢true e)
quiet_turned r p Withdraw q e = absurd (false≢true e)
quiet_turned r p Counters q e = refl
quiet_turned r p (CheckPin b) q e = absurd (false≢true e)

quiet_good : (p : Page) (c : Call) (q : Refusal) → mild c ≡ true → made_good p (did c (only (number q))) ≡ []
quiet_good p (Open d) q e = refl
quiet_good p (IssuerAnswer x u) q e = refl
quiet_good p (Script h m) q e = refl
quiet_good p Close q e = absurd (false≢true e)
quiet_good p Withdraw q e = refl
quiet_good p Counters q e = refl
quiet_good p (CheckPin b) q e = absurd (false≢true e)

-- a call that restores nothing and takes no try
sub-zero : (n : ℕ) → n ≡ n - 0
sub-zero n = omega arith

quiet_tries : (p : Page) (c : Call) (q : Refusal) (n : ℕ) → mild c ≡ true
    → n ≡ cond (restores p (did c (only (number q)))) full_tries (n - cond (is_mistaken (did c (only (number q)))) 1 0)
quiet_tries p (Open d) q n e = sub-zero n
quiet_tries p (IssuerAnswer x u) q n e = sub-zero n
quiet_tries p (Script h m) q n e = sub-zero n
quiet_tries p Close q n e = absurd (false≢true e)
quiet_tries p Withdraw q n e = sub-zero n
quiet_tries p Counters q n e = sub-zero n
quiet_tries p (CheckPin b) q n e = absurd (false≢true e)

-- a PIN is pending exactly where one was ordered
pend-count : (os : List Order) (t : Transaction) → Fits os → eqb (pend_all os t).count 0 ≡ cond (new_pin_in os) false (eqb t.count 0)
unfolding Fits Fit
pend-count [] t f = refl
pend-count (new_pin p n ∷ os) t f =
    pend-count os (pend (new_pin p n) t) f.1 ∙ ap (cond (new_pin_in os) false) (pin_count n p f.0) ∙ both_false (new_pin_in os)
  where
    both_false : (b : Bool) → cond b false false ≡ false
    both_false true = refl
    both_false false = refl
pend-count (new_mark x ∷ os) t f = pend-count os (pend (new_mark x) t) f.1

-- a record of its parts
abbrev record_of : Card → Kept → ℕ → ℕ → ℕ → ℕ → ℕ → Transaction → Card
record_of r k tries atc session failures misreads t =
    with_transaction (with_tries (with_kept (with_counters r atc (counters_at session failures misreads r.counters.authentications)) k) tries) t

same_record : (r : Card) {k l : Kept} {v w a b m n f g d e : ℕ} {t u : Transaction} → k ≡ l → v ≡ w → a ≡ b → m ≡ n → f ≡ g → d ≡ e → t ≡ u
    → record_of r k v a m f d t ≡ record_of r l w b n g e u
same_record r ek ev ea em ef ed et = rw (ek, ev, ea, em, ef, ed, et)

-- what ties the record to the ledger
record Tied (r : Card) (t : History) : Type 0 where
  sound_so : sound (must_be r t) ≡ true
  fits : Fits (page r t).ordered

module _ (r : Card) (t : History) (tied : Tied r t) where
  abbrev p : Page
  p = page r t

  abbrev s : Card
  s = must_be r t

  transaction_so : s.transaction ≡ transaction_by p
  unfolding must_be
  transaction_so = refl

  phase_so : is_open s.transaction.phase ≡ is_open p.phase
  unfolding must_be
  phase_so = ap is_open (left p.ordered _).phase

  spoilt_so : s.transaction.spoilt ≡ p.spoilt
  unfolding must_be
  spoilt_so = (left p.ordered _).spoil

  laid_so : settled s.transaction (kept s) ≡ all_obeyed p.ordered (kept s)
  unfolding must_be settled
  laid_so = all_laid p.ordered _ (kept s) tied.fits

  none_so : is_open s.transaction.phase ≡ false → s.transaction ≡ none
  none_so e = let a = parts s tied.sound_so in idle_none s.transaction e a.rested a.pended

  orders_so : (h m : List ℕ) → orders (read s h m).command (read s h m).block ≡ orders_in r p.cryptogram h m
  unfolding must_be smc_key
  orders_so h m =
      ap (λ (g : List ℕ). orders (command_of h (tag_of m) (length_of m)) (decipher_pin (derived r.smc card_label g) (data_of m))) (left p.ordered _).cryptogram

  -- the page with its spoilt mark and its orders set anew
  abbrev marked : Bool → List Order → Page
  marked b os = record { phase = p.phase; cryptogram = p.cryptogram; spoilt = b; ordered = os }

  same_page : (os : List Order) {x y : Bool} → x ≡ y → transaction_by (marked x os) ≡ transaction_by (marked y os)
  same_page os e = rw e

  -- a refused script: it spoils an open transaction, and orders nothing
  refused_page : Page
  refused_page = marked (p.spoilt || (is_open p.phase && true)) p.ordered

  left_so : is_open s.transaction.phase ≡ false → s.transaction ≡ transaction_by refused_page
  unfolding must_be refused_page
  left_so e =
      sym (same_page p.ordered (ap (λ (b : Bool). p.spoilt || (b && true)) (sym phase_so ∙ e) ∙ or-false p.spoilt))

  spoilt_now : is_open s.transaction.phase ≡ true → spoilt s.transaction ≡ transaction_by refused_page
  unfolding must_be refused_page
  spoilt_now e =
      spoilt_all p.ordered _
      ∙ sym (same_page p.ordered (ap (λ (b : Bool). p.spoilt || (b && true)) (sym phase_so ∙ e) ∙ or-true p.spoilt))

  -- an accepted one
  pended_so : (h m : List ℕ)
      → pend_all (orders (read s h m).command (read s h m).block) s.transaction ≡ transaction_by (marked (p.spoilt || (is_open p.phase && false)) (p.ordered ++ orders_in r p.cryptogram h m))
  pended_so h m =
      ap₂ pend_all (orders_so h m) transaction_so
      ∙ sym (pend-append p.ordered (orders_in r p.cryptogram h m) _)
      ∙ sym (same_page (p.ordered ++ orders_in r p.cryptogram h m) (ap (λ (b : Bool). p.spoilt || b) (and-false (is_open p.phase)) ∙ or-false p.spoilt))

  restored_so : tries_after s.transaction s.tries ≡ cond (new_pin_in p.ordered) full_tries (s.tries - 0)
  unfolding must_be
  restored_so = rw (pend-count p.ordered _ tied.fits) (go (new_pin_in p.ordered))
    where
      go : (b : Bool) → cond (cond b false true) (tries_by r t) full_tries ≡ cond b full_tries (tries_by r t - 0)
      go true = refl
      go false = sub-zero (tries_by r t)

  kept_step : {c : Call} {a : Reply} → Change s c a → kept a.card ≡ all_obeyed (made_good p (entry c a)) (kept s)
  kept_step (quiet {c} q e) = rw (quiet_good p c q e)
  kept_step (idle e) = rw (sym phase_so ∙ e)
  kept_step (early e) = refl
  kept_step counted = refl
  kept_step (opened e) = refl
  kept_step (answered e) = refl
  kept_step (spoiled q e n f) = refl
  kept_step (differed e f) = refl
  kept_step (took a) = refl
  kept_step (dropped e z) = rw (sym phase_so ∙ e, sym spoilt_so ∙ z)
  kept_step (closed e z) = rw (sym phase_so ∙ e, sym spoilt_so ∙ z) laid_so
  kept_step withdrew = refl
  kept_step (spared q e n) = refl
  kept_step misread = refl
  kept_step mistaken = refl
  kept_step recognised = refl

  transaction_step : {c : Call} {a : Reply} → Change s c a → a.card.transaction ≡ transaction_by (page r (entry c a ∷ t))
  unfolding refused_page
  transaction_step (quiet {c} q e) = rw (quiet_turned r p c q e) transaction_so
  transaction_step (idle e) = none_so e
  transaction_step (early e) = left_so e
  transaction_step counted = transaction_so
  transaction_step (opened {d} e) =
      ap (λ (x : Phase). record { phase = x; cryptogram = cryptogram_for (grown s) d; pin = replicate 12 0; count = 0; mark = Nothing; spoilt = false }) (sym (kind_phase s.mark))
  transaction_step (answered e) = transaction_so
  transaction_step (spoiled q e n f) = rw (not_zero q) (spoilt_now e)
  transaction_step (differed w f) = spoilt_now w.phase
  transaction_step (took {h} {m} a) = pended_so h m
  transaction_step (dropped e z) = refl
  transaction_step (closed e z) = refl
  transaction_step withdrew = refl
  transaction_step (spared q e n) = transaction_so
  transaction_step misread = transaction_so
  transaction_step mistaken = transaction_so
  transaction_step recognised = transaction_so

  tries_step : {c : Call} {a : Reply} → Change s c a → a.card.tries ≡ cond (restores p (entry c a)) full_tries (s.tries - cond (is_mistaken (entry c a)) 1 0)
  tries_step (quiet {c} q e) = quiet_tries p c q s.tries e
  tries_step (idle e) = rw (sym phase_so ∙ e) (sub-zero s.tries)
  tries_step (early e) = sub-zero s.tries
  tries_step counted = sub-zero s.tries
  tries_step (opened e) = sub-zero s.tries
  tries_step (answered e) = sub-zero s.tries
  tries_step (spoiled q e n f) = sub-zero s.tries
  tries_step (differed e f) = sub-zero s.tries
  tries_step (took a) = sub-zero s.tries
  tries_step (dropped e z) = rw (sym phase_so ∙ e, sym spoilt_so ∙ z) (sub-zero s.tries)
  tries_step (closed e z) = rw (sym phase_so ∙ e, sym spoilt_so ∙ z) restored_so
  tries_step withdrew = sub-zero s.tries
  tries_step (spared q e n) = rw (not_zero q, n) (sub-zero s.tries)
  tries_step misread = sub-zero s.tries
  tries_step mistaken = refl
  tries_step recognised = refl

  fits_step : {c : Call} {a : Reply} → Change s c a → Fits (page r (entry c a ∷ t)).ordered
  unfolding Fits
  fits_step (quiet {c} q e) = rw (quiet_turned r p c q e) tied.fits
  fits_step (idle e) = tt
  fits_step (early e) = tied.fits
  fits_step counted = tied.fits
  fits_step (opened e) = tt
  fits_step (answered e) = tied.fits
  fits_step (spoiled q e n f) = rw (not_zero q) tied.fits
  fits_step (differed w f) = tied.fits
  fits_step (took {h} {m} a) = fits_append p.ordered _ tied.fits (subst Fits (orders_so h m) (orders_fit a))
  fits_step (dropped e z) = tt
  fits_step (closed e z) = tt
  fits_step withdrew = tt
  fits_step (spared q e n) = tied.fits
  fits_step misread = tied.fits
  fits_step mistaken = tied.fits
  fits_step recognised = tied.fits

  -- the record after a call is made of its parts
  abbrev Made_of : Card → Type 0
  Made_of x = x ≡ record_of r (kept x) x.tries x.atc x.counters.session x.counters.failures x.counters.decipherments x.transaction

  made_step : {c : Call} {a : Reply} → Change s c a → Made_of a.card
  unfolding must_be
  made_step (quiet q e) = refl
  made_step (idle e) = refl
  made_step (early e) = refl
  made_step counted = refl
  made_step (opened e) = refl
  made_step (answered e) = refl
  made_step (spoiled q e n f) = refl
  made_step (differed w f) = refl
  made_step (took a) = refl
  made_step (dropped e z) = refl
  made_step (closed e z) = refl
  made_step withdrew = refl
  made_step (spared q e n) = refl
  made_step misread = refl
  made_step mistaken = refl
  made_step recognised = refl

  after_step : {c : Call} {a : Reply} → Change s c a → a.card ≡ must_be r (entry c a ∷ t)
  unfolding must_be
  after_step {c} {a} x =
      let e = entry c a in
      let k : kept a.card ≡ kept_by r (e ∷ t) = kept_step x ∙ sym (all_append (good r t) (made_good p e) (kept r)) in
      let n : a.card.atc ≡ atc_by r (e ∷ t) = let z = atc_step x in omega arith in
      let f : a.card.counters.failures ≡ (counters_by r (e ∷ t)).failures = let z = failures_step x in omega arith in
      let m : a.card.counters.session ≡ (counters_by r (e ∷ t)).session = session_step x in
      let d : a.card.counters.decipherments ≡ (counters_by r (e ∷ t)).decipherments = let z = misreads_step x in omega arith in
      made_step x ∙ same_record r k (tries_step x) n m f d (transaction_step x)

  tied_step : (c : Call) → ((box s c).card ≡ must_be r (did c (due s c) ∷ t)) × Tied r (did c (due s c) ∷ t)
  tied_step c =
      let x = change s tied.sound_so c in
      (after_step x, record { sound_so = sym (ap sound (after_step x)) ∙ keeps tied.sound_so x; fits = fits_step x })

-- over a run
after_run : (r : Card) (t : History) → Tied r t → (cs : List Call) → run (must_be r t) cs ≡ must_be r (ledger r t cs)
unfolding ledger
after_run r t tied [] = refl
after_run r t tied (c ∷ cs) =
    let x = tied_step r t tied c in
    ap (λ (z : Card). run z cs) x.0 ∙ after_run r (did c (due (must_be r t) c) ∷ t) x.1 cs

module _ (l : Loading) (f : Fresh l) where
  at_start : must_be (loaded l) [] ≡ loaded l
  unfolding must_be
  at_start =
      ap (λ (a : Reply). must_be a.card []) (started l f)
      ∙ same_record (fresh_of l) refl refl (add-zero _) refl (add-zero _) (add-zero _) refl
      ∙ sym (ap (λ (a : Reply). a.card) (started l f))

  start_tied : Tied (loaded l) []
  unfolding Fits
  start_tied = record { sound_so = ap sound at_start ∙ fresh_law l f; fits = tt }

  pub our_record : (cs : List Call) → run (any.start l) cs ≡ after_calls l cs
  our_record cs = ap (λ (x : Card). run x cs) (sym at_start) ∙ after_run (loaded l) [] start_tied cs
