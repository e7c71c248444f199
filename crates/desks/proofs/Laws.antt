-- Wish 7's sentences, each by what one call writes into the book. Assumes nothing.
use Prim.Native.Nat.{ℕ, ◌≤◌, ◌<◌}
use native.Mathlib.Omega.{arith}
use native.Mathlib.Numerals.{add-one}
use mathlib.Core.Path.{◌≡◌, refl, sym, ap, ap₂, subst, ◌∙◌}
use mathlib.Core.Logic.{◌↔◌}
use mathlib.Core.Bool.{Bool, true, false, not, ◌&&◌, ◌||◌, cond, true≢false, false≢true}
use mathlib.Core.List.{List, [], ◌∷◌, ◌++◌}
use Rattle.std.specs.Prelude.{Option, None, Some}
use lib.Dec.{eqb, leb}
use lib.ListN.{length}
use borrow.Author.Tests.{eqb-true, eqb-false, not-false, ltb-true, leb-true, leb-false, le-leb}
use Rattle.answers.specs.declared.Refusal.TheVariants.{Input, CardNumber, UnknownCard, AlreadyHeld, TableFull, ArqcDiffers, CounterNotAbove}
use Rattle.answers.specs.Refusals.{number}
use Rattle.answers.proofs.Laws.{not_zero}
use Rattle.octets.specs.Same.{same}
use Rattle.keys.specs.CardNumber.{card_fits}
use Rattle.desks.specs.Run.{Issuer, DeskCall, Add, Forget, Check, Wrap}
use Rattle.desks.specs.Book.{Holding, is_of, holds, last_of, counter_of, arqc_for, is_above, Strike, strikes, first_of, due, writes, book, due_after}
use Rattle.desks.specs.Sentences.{is_add, is_forget, is_check, its_counter, accepted, last_was_add, last_checked, never_forgot, Sentences, once, EachOnce}
use Rattle.desks.proofs.BookLaws.{card_equal, last_none, struck_own, struck_holds, struck_last, struck_once, struck_length, kept_holds, kept_own, kept_last, kept_length, kept_once}

-- the tests of a call
abbrev pub add_tests : Bool → Bool → Bool → List Strike
add_tests f h r = strikes (not f) CardNumber ∷ strikes h AlreadyHeld ∷ strikes r TableFull ∷ []

abbrev pub forget_tests : Bool → Bool → List Strike
forget_tests f h = strikes (not f) CardNumber ∷ strikes (not h) UnknownCard ∷ []

abbrev pub check_tests : Bool → Bool → Bool → Bool → Bool → List Strike
check_tests l f h s a =
    strikes (not l) Input ∷ strikes (not f) CardNumber ∷ strikes (not h) UnknownCard ∷ strikes (not s) ArqcDiffers ∷ strikes (not a) CounterNotAbove ∷ []

-- a call that is not refused passes each of them
abbrev Passes : List Strike → Type 0
Passes [] = Unit {0}
Passes (strikes b r ∷ cs) = (b ≡ false) × Passes cs

passed : (cs : List Strike) → first_of cs ≡ 0 → Passes cs
passed [] e = tt
passed (strikes b r ∷ cs) e = go b e (passed cs)
  where
    go : (x : Bool) → cond x (number r) (first_of cs) ≡ 0 → (first_of cs ≡ 0 → Passes cs) → (x ≡ false) × Passes cs
    go true z ih = absurd (eqb-false _ _ (not_zero r) z)
    go false z ih = (refl, ih z)

module _ (k : Issuer) (b : List Holding) (pan : List ℕ) (q : ℕ) where
  pub add_passed : due k b (Add pan q) ≡ 0 → (holds pan q b ≡ false) × (leb 64 (length b) ≡ false)
  unfolding due
  add_passed e = let p = (passed (add_tests (card_fits pan q) (holds pan q b) (leb 64 (length b))) e).1 in (p.0, p.1.0)

  pub forget_passed : due k b (Forget pan q) ≡ 0 → holds pan q b ≡ true
  unfolding due
  forget_passed e = not-false (holds pan q b) (passed (forget_tests (card_fits pan q) (holds pan q b)) e).1.0

  module _ (m arqc csu : List ℕ) where
    abbrev tests : List Strike
    tests =
        check_tests (eqb (length m) 65 && (eqb (length arqc) 8 && eqb (length csu) 4)) (card_fits pan q) (holds pan q b) (same (arqc_for k pan q m) arqc)
        (is_above (counter_of m) (last_of pan q b))

    pub check_passed : due k b (Check pan q m arqc csu) ≡ 0 → (holds pan q b ≡ true) × (is_above (counter_of m) (last_of pan q b) ≡ true)
    unfolding due
    check_passed e = let p = (passed tests e).1.1 in (not-false (holds pan q b) p.0, not-false (is_above (counter_of m) (last_of pan q b)) p.1.1.0)

-- what a call writes, read of any card
module _ (pan : List ℕ) (q : ℕ) (b : List Holding) where
  pub writes_holds : (c : DeskCall) → holds pan q (writes c b) ≡ cond (is_add pan q c || is_forget pan q c) (is_add pan q c) (holds pan q b)
  unfolding is_of holds
  writes_holds (Add p s) = go (same pan p && eqb q s)
    where
      go : (x : Bool) → (x || holds pan q b) ≡ cond (x || false) x (holds pan q b)
      go true = refl
      go false = refl
  writes_holds (Forget p s) = go (same pan p && eqb q s) refl
    where
      go : (x : Bool) → (same pan p && eqb q s) ≡ x → holds pan q (writes (Forget p s) b) ≡ cond x false (holds pan q b)
      go true w = let c = card_equal pan q p s w in ap₂ (λ (x : List ℕ) (y : ℕ). holds x y (writes (Forget p s) b)) c.0 c.1 ∙ struck_own p s b
      go false w = struck_holds p s pan q w b
  writes_holds (Check p s m arqc csu) = kept_holds p s (counter_of m) pan q b
  writes_holds (Wrap p s i g pin lent place) = refl

  pub writes_last : (k : Issuer) (c : DeskCall) → due k b c ≡ 0
      → last_of pan q (writes c b) ≡ cond (is_add pan q c || is_forget pan q c) None (cond (is_check pan q c) (Some (its_counter c)) (last_of pan q b))
  unfolding is_of last_of
  writes_last k (Add p s) e = go (same pan p && eqb q s)
    where
      go : (x : Bool) → cond x None (last_of pan q b) ≡ cond (x || false) None (last_of pan q b)
      go true = refl
      go false = refl
  writes_last k (Forget p s) e = go (same pan p && eqb q s) refl
    where
      go : (x : Bool) → (same pan p && eqb q s) ≡ x → last_of pan q (writes (Forget p s) b) ≡ cond x None (last_of pan q b)
      go true w =
          let c = card_equal pan q p s w in
          ap₂ (λ (x : List ℕ) (y : ℕ). last_of x y (writes (Forget p s) b)) c.0 c.1 ∙ last_none p s (writes (Forget p s) b) (struck_own p s b)
      go false w = struck_last p s pan q w b
  writes_last k (Check p s m arqc csu) e = go (same pan p && eqb q s) refl
    where
      after : List Holding
      after = writes (Check p s m arqc csu) b

      go : (x : Bool) → (same pan p && eqb q s) ≡ x → last_of pan q after ≡ cond x (Some (counter_of m)) (last_of pan q b)
      go true w =
          let c = card_equal pan q p s w in
          ap₂ (λ (x : List ℕ) (y : ℕ). last_of x y after) c.0 c.1 ∙ kept_own p s (counter_of m) b (check_passed k b p s m arqc csu e).0
      go false w = kept_last p s pan q w (counter_of m) b
  writes_last k (Wrap p s i g pin lent place) e = refl

-- one call more
module _ (k : Issuer) (cs : List DeskCall) (c : DeskCall) where
  pub refusal_keeps : accepted k cs c ≡ false → book k (c ∷ cs) ≡ book k cs
  unfolding book
  refusal_keeps e = ap (λ (x : Bool). cond x (writes c (book k cs)) (book k cs)) e

  pub taken : accepted k cs c ≡ true → book k (c ∷ cs) ≡ writes c (book k cs)
  unfolding book
  taken e = ap (λ (x : Bool). cond x (writes c (book k cs)) (book k cs)) e

  holds_step : (pan : List ℕ) (q : ℕ) → holds pan q (book k (c ∷ cs)) ≡ cond (accepted k cs c && (is_add pan q c || is_forget pan q c)) (is_add pan q c) (holds pan q (book k cs))
  holds_step pan q = go (accepted k cs c) refl
    where
      go : (x : Bool) → accepted k cs c ≡ x → holds pan q (book k (c ∷ cs)) ≡ cond (x && (is_add pan q c || is_forget pan q c)) (is_add pan q c) (holds pan q (book k cs))
      go true e = ap (holds pan q) (taken e) ∙ writes_holds pan q (book k cs) c
      go false e = ap (holds pan q) (refusal_keeps e)

  last_step : (pan : List ℕ) (q : ℕ) → last_of pan q (book k (c ∷ cs))
      ≡ cond (accepted k cs c && (is_add pan q c || is_forget pan q c)) None (cond (accepted k cs c && is_check pan q c) (Some (its_counter c)) (last_of pan q (book k cs)))
  last_step pan q = go (accepted k cs c) refl
    where
      go : (x : Bool) → accepted k cs c ≡ x
          → last_of pan q (book k (c ∷ cs)) ≡ cond (x && (is_add pan q c || is_forget pan q c)) None (cond (x && is_check pan q c) (Some (its_counter c)) (last_of pan q (book k cs)))
      go true e = ap (last_of pan q) (taken e) ∙ writes_last pan q (book k cs) k c (eqb-true _ _ e)
      go false e = ap (last_of pan q) (refusal_keeps e)

held_exactly : (k : Issuer) (pan : List ℕ) (q : ℕ) (cs : List DeskCall) → holds pan q (book k cs) ≡ last_was_add k pan q cs
unfolding book holds
held_exactly k pan q [] = refl
held_exactly k pan q (c ∷ cs) =
    holds_step k cs c pan q
    ∙ ap (λ (x : Bool). cond (accepted k cs c && (is_add pan q c || is_forget pan q c)) (is_add pan q c) x) (held_exactly k pan q cs)

last_exactly : (k : Issuer) (pan : List ℕ) (q : ℕ) (cs : List DeskCall) → last_of pan q (book k cs) ≡ last_checked k pan q cs
unfolding book last_of
last_exactly k pan q [] = refl
last_exactly k pan q (c ∷ cs) =
    last_step k cs c pan q
    ∙ ap (λ (x : Option ℕ). cond (accepted k cs c && (is_add pan q c || is_forget pan q c)) None (cond (accepted k cs c && is_check pan q c) (Some (its_counter c)) x)) (last_exactly k pan q cs)

-- no card twice, and no more than 64
writes_once : (k : Issuer) (b : List Holding) (c : DeskCall) → due k b c ≡ 0 → once b ≡ true → once (writes c b) ≡ true
unfolding once
writes_once k b (Add pan q) e o = ap₂ (λ (x y : Bool). not x && y) (add_passed k b pan q e).0 o
writes_once k b (Forget pan q) e o = struck_once pan q b o
writes_once k b (Check pan q m arqc csu) e o = kept_once pan q (counter_of m) b ∙ o
writes_once k b (Wrap pan q i g pin lent place) e o = o

pub each_once : EachOnce
unfolding book once
each_once k [] = refl
each_once k (c ∷ cs) = go (accepted k cs c) refl (each_once k cs)
  where
    go : (x : Bool) → accepted k cs c ≡ x → once (book k cs) ≡ true → once (cond x (writes c (book k cs)) (book k cs)) ≡ true
    go true e ih = writes_once k (book k cs) c (eqb-true _ _ e) ih
    go false e ih = ih

writes_most : (k : Issuer) (b : List Holding) (c : DeskCall) → due k b c ≡ 0 → once b ≡ true → length b ≤ 64 → length (writes c b) ≤ 64
writes_most k b (Add pan q) e o h = omega (arith, leb-false 64 (length b) (add_passed k b pan q e).1, add-one (length b))
writes_most k b (Forget pan q) e o h = omega (arith, struck_length pan q b o (forget_passed k b pan q e))
writes_most k b (Check pan q m arqc csu) e o h = omega (arith, kept_length pan q (counter_of m) b)
writes_most k b (Wrap pan q i g pin lent place) e o h = h

book_most : (k : Issuer) (cs : List DeskCall) → length (book k cs) ≤ 64
unfolding book
book_most k [] = omega arith
book_most k (c ∷ cs) = go (accepted k cs c) refl (book_most k cs)
  where
    go : (x : Bool) → accepted k cs c ≡ x → length (book k cs) ≤ 64 → length (cond x (writes c (book k cs)) (book k cs)) ≤ 64
    go true e ih = writes_most k (book k cs) c (eqb-true _ _ e) (each_once k cs) ih
    go false e ih = ih

room_exactly : (k : Issuer) (pan : List ℕ) (q : ℕ) (cs : List DeskCall)
    → (due_after k cs (Add pan q) ≡ 21) ↔ ((card_fits pan q ≡ true) × (holds pan q (book k cs) ≡ false) × (length (book k cs) ≡ 64))
unfolding due
room_exactly k pan q cs = (go (card_fits pan q) (holds pan q (book k cs)) (leb 64 (length (book k cs))) refl refl refl, back)
  where
    by : Bool → Bool → Bool → ℕ
    by f h r = cond (not f) 2 (cond h 20 (cond r 21 0))

    go : (f h r : Bool) → card_fits pan q ≡ f → holds pan q (book k cs) ≡ h → leb 64 (length (book k cs)) ≡ r → by f h r ≡ 21
        → (card_fits pan q ≡ true) × (holds pan q (book k cs) ≡ false) × (length (book k cs) ≡ 64)
    go true false true ef eh er e = (ef, eh, omega (arith, book_most k cs, leb-true 64 (length (book k cs)) er))
    go true false false ef eh er e = absurd (eqb-false 0 21 refl e)
    go true true r ef eh er e = absurd (eqb-false 20 21 refl e)
    go false h r ef eh er e = absurd (eqb-false 2 21 refl e)

    back : (card_fits pan q ≡ true) × (holds pan q (book k cs) ≡ false) × (length (book k cs) ≡ 64) → by (card_fits pan q) (holds pan q (book k cs)) (leb 64 (length (book k cs))) ≡ 21
    back t = ap₂ (λ (f h : Bool). by f h (leb 64 (length (book k cs)))) t.0 t.1 ∙ ap (by true false) (le-leb 64 (length (book k cs)) (omega (arith, t.2)))

-- a checking of a card is no other call, and an accepted call passed the tests of its own card
module _ (pan : List ℕ) (q : ℕ) where
  only_check : (c : DeskCall) → is_check pan q c ≡ true → (is_add pan q c || is_forget pan q c) ≡ false
  only_check (Add p s) e = absurd (false≢true e)
  only_check (Forget p s) e = absurd (false≢true e)
  only_check (Check p s m arqc csu) e = refl
  only_check (Wrap p s i g pin lent place) e = absurd (false≢true e)

  module _ (k : Issuer) (b : List Holding) where
    above : (c : DeskCall) → is_check pan q c ≡ true → due k b c ≡ 0 → is_above (its_counter c) (last_of pan q b) ≡ true
    above (Add p s) e z = absurd (false≢true e)
    above (Forget p s) e z = absurd (false≢true e)
    above (Check p s m arqc csu) e z =
        let c = card_equal pan q p s e in
        ap₂ (λ (x : List ℕ) (y : ℕ). is_above (counter_of m) (last_of x y b)) c.0 c.1 ∙ (check_passed k b p s m arqc csu z).1
    above (Wrap p s i g pin lent place) e z = absurd (false≢true e)

    was_new : (c : DeskCall) → is_add pan q c ≡ true → due k b c ≡ 0 → holds pan q b ≡ false
    was_new (Add p s) e z =
        let c = card_equal pan q p s e in
        ap₂ (λ (x : List ℕ) (y : ℕ). holds x y b) c.0 c.1 ∙ (add_passed k b p s z).0
    was_new (Forget p s) e z = absurd (false≢true e)
    was_new (Check p s m arqc csu) e z = absurd (false≢true e)
    was_new (Wrap p s i g pin lent place) e z = absurd (false≢true e)

-- the last counter is at least n
abbrev AtLeast : ℕ → Option ℕ → Type 0
AtLeast n l = (m : ℕ) × (l ≡ Some m) × (n ≤ m)

module _ (k : Issuer) (pan : List ℕ) (q n : ℕ) where
  -- one call that does not forget the card
  stays : (cs : List DeskCall) (c : DeskCall) → (accepted k cs c && is_forget pan q c) ≡ false → AtLeast n (last_of pan q (book k cs)) → AtLeast n (last_of pan q (book k (c ∷ cs)))
  stays cs c f l = go (accepted k cs c) (is_add pan q c) (is_forget pan q c) (is_check pan q c) refl refl refl f (last_step k cs c pan q)
    where
      last : Option ℕ
      last = last_of pan q (book k (c ∷ cs))

      go : (x a r s : Bool) → accepted k cs c ≡ x → is_add pan q c ≡ a → is_check pan q c ≡ s → (x && r) ≡ false
          → last ≡ cond (x && (a || r)) None (cond (x && s) (Some (its_counter c)) (last_of pan q (book k cs))) → AtLeast n last
      go false a r s ex ea es g e = (l.0, e ∙ l.1, l.2)
      go true a true s ex ea es g e = absurd (true≢false g)
      go true true false s ex ea es g e =
          let z : None ≡ Some l.0 = sym (last_none pan q (book k cs) (was_new pan q k (book k cs) c ea (eqb-true _ _ ex))) ∙ l.1 in
          let w : ◌≡◌ {A = ℕ} 0 1 = cc in
          absurd (eqb-false 0 1 refl w)
      go true false false false ex ea es g e = (l.0, e ∙ l.1, l.2)
      go true false false true ex ea es g e =
          let u : is_above (its_counter c) (Some l.0) ≡ true = subst (λ (x : Option ℕ). is_above (its_counter c) x ≡ true) l.1 (above pan q k (book k cs) c es (eqb-true _ _ ex)) in
          (its_counter c, e, omega (arith, ltb-true l.0 (its_counter c) u, l.2))

  stay : (cs between : List DeskCall) → never_forgot k pan q between cs ≡ true → AtLeast n (last_of pan q (book k cs)) → AtLeast n (last_of pan q (book k (between ++ cs)))
  stay cs [] f l = l
  stay cs (c ∷ between) f l = go (accepted k (between ++ cs) c && is_forget pan q c) refl f (stay cs between)
    where
      go : (x : Bool) → (accepted k (between ++ cs) c && is_forget pan q c) ≡ x → cond x false (never_forgot k pan q between cs) ≡ true
          → (never_forgot k pan q between cs ≡ true → AtLeast n (last_of pan q (book k cs)) → AtLeast n (last_of pan q (book k (between ++ cs))))
          → AtLeast n (last_of pan q (book k (c ∷ (between ++ cs))))
      go true e g ih = absurd (false≢true g)
      go false e g ih = stays (between ++ cs) c e (ih g l)

counters_grow : (k : Issuer) (pan : List ℕ) (q : ℕ) (c e : DeskCall) (between cs : List DeskCall)
    → is_check pan q c ≡ true → is_check pan q e ≡ true → accepted k cs c ≡ true → never_forgot k pan q between (c ∷ cs) ≡ true
    → accepted k (between ++ (c ∷ cs)) e ≡ true → its_counter c < its_counter e
counters_grow k pan q c e between cs hc he ac f ae =
    let first : last_of pan q (book k (c ∷ cs)) ≡ Some (its_counter c) = last_step k cs c pan q ∙ rw (ac, only_check pan q c hc, hc) in
    let l = stay k pan q (its_counter c) (c ∷ cs) between f (its_counter c, first, omega arith) in
    let u : is_above (its_counter e) (Some l.0) ≡ true = subst (λ (x : Option ℕ). is_above (its_counter e) x ≡ true) l.1 (above pan q k (book k (between ++ (c ∷ cs))) e he (eqb-true _ _ ae)) in
    omega (arith, ltb-true l.0 (its_counter e) u, l.2)

pub sentences : Sentences
sentences =
    record { held_exactly = held_exactly; room_exactly = room_exactly; last_exactly = last_exactly; counters_grow = counters_grow; refusal_keeps = refusal_keeps }
