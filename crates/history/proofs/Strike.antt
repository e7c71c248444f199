-- Demand 3, striking out: a withdrawal forgets what its transaction's scripts made pending. Assumes nothing.
use Prim.Native.Nat.{ℕ, ◌+◌, ◌-◌}
use mathlib.Core.Path.{◌≡◌, refl, sym, ap, ap₂, subst, ◌∙◌}
use mathlib.Core.List.{List, [], ◌∷◌, ◌++◌}
use mathlib.Core.Bool.{Bool, true, false, not, ◌&&◌, cond, and-eq-true_iff, true≢false, false≢true}
use lib.ListN.{replicate}
use lib.Dec.{eqb}
use borrow.Author.Tests.{eqb-true, not-true}
use Rattle.answers.specs.declared.Refusal.{Refusal}
use Rattle.answers.specs.Refusals.{number}
use Rattle.octets.specs.Same.{same}
use Rattle.transaction.specs.declared.PendingMark.TheVariants.{Nothing}
use Rattle.transaction.specs.declared.Transaction.{Transaction}
use Rattle.transaction.specs.Transaction.{is_open, is_unmarked, none, pending_fits, rest_fits}
use Rattle.card.specs.declared.Card.{Card}
use Rattle.card.specs.declared.Reply.{Reply}
use Rattle.card.specs.Record.{sound, with_transaction, with_counters, with_tries, one_misread}
use Rattle.card.specs.Keys.{session_key_of, smi_key, smc_key, counter_key_of}
use Rattle.card.specs.Calls.{Call, Open, IssuerAnswer, Script, Close, Withdraw, Counters, Verdict, refuse, accept, read, judged_script, judged, judged_under, arpc_for, cryptogram_for, counters_for, CheckPin, refused_check}
use Rattle.card.specs.Calls.{only, Order, new_pin, new_mark, orders, pend, pend_all, refused, plain}
use Rattle.history.proofs.Own.{any, box, entry, history, run}
use Rattle.history.specs.Run.{Loading, Entry, did, History, calls_of, frame, is_command}
use Rattle.history.specs.Demand3.{Fresh, struck, any_of, SameButStruck, StrikeLaw}
use Rattle.history.proofs.Change.{by, step_by, change}
use Rattle.history.proofs.Keeps.{neither, keeps, parts, whole, sound_law, fresh_law}

-- the record with nothing pending and no spoilt mark: what a withdrawal forgets
abbrev bare_of : Transaction → Transaction
bare_of t = record { phase = t.phase; cryptogram = t.cryptogram; pin = replicate 12 0; count = 0; mark = Nothing; spoilt = false }

abbrev bare : Card → Card
bare r = with_transaction r (bare_of r.transaction)

bare_rest : (t : Transaction) → rest_fits t ≡ true → rest_fits (bare_of t) ≡ true
unfolding rest_fits
bare_rest t e = go (is_open t.phase) e
  where
    go : (b : Bool) → cond b true (same t.cryptogram (replicate 8 0) && (eqb t.count 0 && (is_unmarked t.mark && not t.spoilt))) ≡ true
        → cond b true (same t.cryptogram (replicate 8 0) && true) ≡ true
    go true w = refl
    go false w = rw ((and-eq-true_iff (same t.cryptogram (replicate 8 0)) _).0 w).0

bare_sound : (r : Card) → sound r ≡ true → sound (bare r) ≡ true
unfolding pending_fits same
bare_sound r s = whole (bare r) (record { pinned = (parts r s).pinned; tried = (parts r s).tried; pended = refl; rested = bare_rest r.transaction (parts r s).rested })

bare_pend : (os : List Order) (t : Transaction) → bare_of (pend_all os t) ≡ bare_of t
bare_pend [] t = refl
bare_pend (new_pin p n ∷ os) t = bare_pend os (pend (new_pin p n) t)
bare_pend (new_mark b ∷ os) t = bare_pend os (pend (new_mark b) t)

-- what is seen of a call: its entry, and the record after it but for what is pending
abbrev Seen : Type 0
Seen = Entry × Card

abbrev seen : Call → Reply → Seen
seen c a = (entry c a, bare a.card)

seen_refused : (r : Card) (h m : List ℕ) (q : Refusal) → bare (refused r (Script h m) q) ≡ bare (refused (bare r) (Script h m) q)
seen_refused r h m q = go (is_open r.transaction.phase) refl
  where
    go : (o : Bool) → is_open r.transaction.phase ≡ o → bare (refused r (Script h m) q) ≡ bare (refused (bare r) (Script h m) q)
    go true e = rw e
    go false e = rw e

abbrev checked : Card → Bool → Bool → Card
checked s x y = cond x (with_counters s s.atc (one_misread s.counters)) (cond y (with_tries s (s.tries - 1)) s)

seen_check : (r : Card) (q : Refusal) → bare (refused_check r q) ≡ bare (refused_check (bare r) q)
seen_check r q = go (eqb (number q) 9) (eqb (number q) 14)
  where
    go : (x y : Bool) → bare (checked r x y) ≡ bare (checked (bare r) x y)
    go true y = refl
    go false true = refl
    go false false = refl

seen_taken : (r : Card) (os : List Order) → bare (with_transaction r (pend_all os r.transaction)) ≡ bare (with_transaction (bare r) (pend_all os (bare_of r.transaction)))
seen_taken r os = ap (with_transaction r) (bare_pend os r.transaction ∙ sym (bare_pend os (bare_of r.transaction)))

-- the calls that end no transaction look at nothing that is pending
module _ (c : Call) (n4 : eqb (frame c) 4 ≡ false) (n5 : eqb (frame c) 5 ≡ false) where
  seen_by : (r : Card) (v : Verdict) → seen c (by r c v) ≡ seen c (by (bare r) c v)
  unfolding cryptogram_for counters_for counter_key_of session_key_of smc_key
  seen_by r v = go c v n4 n5
    where
      go : (x : Call) (w : Verdict) → eqb (frame x) 4 ≡ false → eqb (frame x) 5 ≡ false → seen x (by r x w) ≡ seen x (by (bare r) x w)
      go (Open d) (refuse q) a b = refl
      go (Open d) accept a b = refl
      go (IssuerAnswer x u) (refuse q) a b = refl
      go (IssuerAnswer x u) accept a b = refl
      go (Script h m) (refuse q) a b = ap (λ (y : Card). (did (Script h m) (only (number q)), y)) (seen_refused r h m q)
      go (Script h m) accept a b = ap (λ (y : Card). (did (Script h m) (only 0), y)) (seen_taken r (orders (read r h m).command (read r h m).block))
      go Close w a b = absurd (true≢false a)
      go Withdraw w a b = absurd (true≢false b)
      go Counters (refuse q) a b = refl
      go Counters accept a b = refl
      go (CheckPin s) (refuse q) a b = ap (λ (y : Card). (did (CheckPin s) (only (number q)), y)) (seen_check r q)
      go (CheckPin s) accept a b = refl

  same_verdict : (r : Card) → judged r c ≡ judged (bare r) c
  unfolding judged_under judged_script arpc_for session_key_of smi_key smc_key
  same_verdict r = go c n4
    where
      go : (x : Call) → eqb (frame x) 4 ≡ false → judged r x ≡ judged (bare r) x
      go (Open d) a = refl
      go (IssuerAnswer x u) a = refl
      go (Script h m) a = refl
      go Close a = absurd (true≢false a)
      go Withdraw a = refl
      go Counters a = refl
      go (CheckPin s) a = refl

  seen_step : (r : Card) → sound r ≡ true → seen c (box r c) ≡ seen c (box (bare r) c)
  seen_step r s =
      ap (seen c) (step_by r s c)
      ∙ ap (λ (v : Verdict). seen c (by r c v)) (same_verdict r)
      ∙ seen_by r (judged (bare r) c)
      ∙ sym (ap (seen c) (step_by (bare r) (bare_sound r s) c))

-- a Script call that is not answered 8 changes only what a withdrawal forgets
abbrev pub harmless : Entry → Bool
harmless (did c a) = eqb (frame c) 3 && not (eqb a.number 8)

harmless_by : (r : Card) (c : Call) (v : Verdict) → harmless (entry c (by r c v)) ≡ true → bare (by r c v).card ≡ bare r
harmless_by r (Open d) v e = absurd (false≢true e)
harmless_by r (IssuerAnswer x u) v e = absurd (false≢true e)
harmless_by r Close v e = absurd (false≢true e)
harmless_by r Withdraw v e = absurd (false≢true e)
harmless_by r Counters v e = absurd (false≢true e)
harmless_by r (CheckPin b) v e = absurd (false≢true e)
harmless_by r (Script h m) accept e = ap (with_transaction r) (bare_pend (orders (read r h m).command (read r h m).block) r.transaction)
harmless_by r (Script h m) (refuse q) e = go (is_open r.transaction.phase) refl (not-true _ e)
  where
    go : (o : Bool) → is_open r.transaction.phase ≡ o → eqb (number q) 8 ≡ false → bare (refused r (Script h m) q) ≡ bare r
    go true w n = rw (w, n)
    go false w n = rw w

harmless_bare : (r : Card) (c : Call) → sound r ≡ true → harmless (entry c (box r c)) ≡ true → bare (box r c).card ≡ bare r
harmless_bare r c s e =
    subst (λ (a : Reply). harmless (entry c a) ≡ true → bare a.card ≡ bare r) (sym (step_by r s c)) (harmless_by r c (judged r c)) e

-- the struck history is that of its own calls, from any record that differs only in what is pending
Follows : Card → History → Card → Type 0
Follows s y q = (history s (calls_of y) ≡ y) × (bare (run s (calls_of y)) ≡ bare q)

module _ (test : Entry → Bool) (ok : (e : Entry) → test e ≡ true → harmless e ≡ true) where
  follows_step : (r s : Card) (c : Call) (ps : ℕ → Bool) (y : History) (q : Card) → sound r ≡ true → sound s ≡ true → bare r ≡ bare s → eqb (frame c) 4 ≡ false → eqb (frame c) 5 ≡ false
      → ((s' : Card) → sound s' ≡ true → bare (box r c).card ≡ bare s' → Follows s' y q)
      → Follows s (cond (ps 0 && test (entry c (box r c))) y (entry c (box r c) ∷ y)) q
  unfolding Follows
  follows_step r s c ps y q sr ss b n4 n5 ih = go (ps 0 && test (entry c (box r c))) refl
    where
      go : (t : Bool) → (ps 0 && test (entry c (box r c))) ≡ t → Follows s (cond t y (entry c (box r c) ∷ y)) q
      go true w = ih s ss (harmless_bare r c sr (ok (entry c (box r c)) ((and-eq-true_iff (ps 0) _).0 w).1) ∙ b)
      go false w =
          let k : seen c (box r c) ≡ seen c (box s c) = seen_step c n4 n5 r sr ∙ ap (λ (x : Card). seen c (box x c)) b ∙ sym (seen_step c n4 n5 s ss) in
          let f = ih (box s c).card (keeps ss (change s ss c)) (ap (λ (x : Seen). x.1) k) in
          (ap₂ {C = History} (λ e t. e ∷ t) (sym (ap (λ (x : Seen). x.0) k)) f.0, f.1)

  follows : (r s : Card) (cs : List Call) (ps : ℕ → Bool) → sound r ≡ true → sound s ≡ true → bare r ≡ bare s → any_of 4 cs ≡ false → any_of 5 cs ≡ false
      → Follows s (struck test ps (history r cs)) (run r cs)
  unfolding Follows
  follows r s [] ps sr ss b n4 n5 = (refl, sym b)
  follows r s (c ∷ cs) ps sr ss b n4 n5 =
      let a = neither (eqb (frame c) 4) _ n4 in
      let w = neither (eqb (frame c) 5) _ n5 in
      follows_step r s c ps (struck test (λ n. ps (n + 1)) (history (box r c).card cs)) (run (box r c).card cs) sr ss b a.0 w.0
      (λ s' ss' b'. follows (box r c).card s' cs (λ n. ps (n + 1)) (keeps sr (change r sr c)) ss' b' a.1 w.1)

run-append : (r : Card) (a b : List Call) → run r (a ++ b) ≡ run (run r a) b
run-append r [] b = refl
run-append r (c ∷ a) b = run-append (box r c).card a b

history-append : (r : Card) (a b : List Call) → history r (a ++ b) ≡ history r a ++ history (run r a) b
history-append r [] b = refl
history-append r (c ∷ a) b = ap (λ (t : History). entry c (box r c) ∷ t) (history-append (box r c).card a b)

-- a withdrawal forgets what was pending
forgets : (s q : Card) → sound s ≡ true → sound q ≡ true → bare s ≡ bare q → box s Withdraw ≡ box q Withdraw
unfolding judged_under
forgets s q ss sq b = step_by s ss Withdraw ∙ ap (λ (x : Card). plain (with_transaction x none) 0) b ∙ sym (step_by q sq Withdraw)

strike_by : (test : Entry → Bool) → ((e : Entry) → test e ≡ true → harmless e ≡ true)
    → (r : Card) (a b d : List Call) (ps : ℕ → Bool) → sound r ≡ true → any_of 4 b ≡ false → any_of 5 b ≡ false → SameButStruck any r a b d test ps
unfolding Follows
strike_by test ok r a b d ps s n4 n5 =
    let r₀ = run r a in
    let s₀ : sound (run r a) ≡ true = sound_law r a s in
    let y = struck test ps (history r₀ b) in
    let f = follows test ok r₀ r₀ b ps s₀ s₀ refl n4 n5 in
    let w : box (run r₀ (calls_of y)) Withdraw ≡ box (run r₀ b) Withdraw = forgets _ _ (sound_law r₀ (calls_of y) s₀) (sound_law r₀ b s₀) f.1 in
    let e : run (run r a) b ≡ run r (a ++ b) = sym (run-append r a b) in
    record {
      the_record = run-append r a _ ∙ run-append r₀ (calls_of y) _ ∙ ap (λ (x : Reply). run x.card d) w ∙ sym (run-append r₀ b _) ∙ sym (run-append r a _);
      the_answers =
          history-append r a _
          ∙ ap (λ (t : History). history r a ++ t)
          (history-append r₀ (calls_of y) _ ∙ ap₂ {C = History} (λ u v. u ++ v) f.0 (ap (λ (x : Reply). entry Withdraw x ∷ history x.card d) w ∙ ap (λ (x : Card). history x (Withdraw ∷ d)) e));
    }

taken_harmless : (e : Entry) → is_command e ≡ true → harmless e ≡ true
taken_harmless (did c a) w =
    let p = (and-eq-true_iff (eqb (frame c) 3) _).0 w in
    rw (p.0, eqb-true a.number 0 p.1)

pub strike_law : StrikeLaw any
strike_law l a b d ps f n4 n5 = strike_by is_command taken_harmless (any.start l) a b d ps (fresh_law l f) n4 n5

-- the same of any choice of Script calls that were not answered 8, of which the accepted ones are a part
pub strike_any_law : (l : Loading) (before between after : List Call) (choice : ℕ → Bool) → Fresh l → any_of 4 between ≡ false → any_of 5 between ≡ false
    → SameButStruck any (any.start l) before between after harmless choice
strike_any_law l a b d ps f n4 n5 = strike_by harmless (λ e w. w) (any.start l) a b d ps (fresh_law l f) n4 n5
