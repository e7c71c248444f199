-- The useless desks: of each the demand is false. Assumes nothing.
use Prim.Native.Nat.{ℕ, zero, suc, ◌≤◌, ◌<◌}
use native.Mathlib.Omega.{arith}
use native.Mathlib.Numerals.{add-one}
use mathlib.Core.Path.{◌≡◌, refl, sym, ap, ap₂, ◌∙◌}
use mathlib.Core.Bool.{Bool, true, false, ◌&&◌, ◌||◌, cond}
use mathlib.Core.List.{List, [], ◌∷◌}
use Rattle.std.specs.Prelude.{Option, None, Some}
use lib.Dec.{eqb, leb}
use lib.ListN.{length, replicate}
use borrow.Author.Tests.{eq-eqb, ne_eqb, eqb-false, le-ltb, le-leb, lt-leb}
use Rattle.octets.specs.Same.{same}
use Rattle.octets.proofs.SameLaws.{same_refl}
use Rattle.octets.proofs.DigitLaws.{digits_all}
use Rattle.octets.proofs.Parts.{zeros_at}
use Rattle.keys.specs.CardNumber.{card_fits}
use Rattle.keys.proofs.SeedLaws.{card_fits_lem}
use Rattle.cryptogram.specs.declared.Kind.TheVariants.{Arqc}
use Rattle.cryptogram.proofs.AnswerLaws.{length-cryptogram}
use Rattle.desks.specs.Run.{Issuer, DeskCall, Add, Forget, Check, reached, answered}
use Rattle.desks.specs.Book.{Holding, is_of, holds, last_of, counter_of, session_for, arqc_for, is_above, first_of, due, writes, book, due_after}
use Rattle.desks.specs.Demanded.{Demanded}
use Rattle.desks.proofs.BookLaws.{card_refl, struck_absent, struck_length, kept_holds, kept_own}
use Rattle.desks.proofs.Laws.{add_tests, forget_tests, check_tests, taken, each_once}
use Rattle.desks.proofs.Boxes.{refuses_everything, Noted, noted, never_keeps, addings, no_room_again}

-- the cards of twelve zeros
abbrev card : List ℕ
card = replicate 12 0

zeros_fit : (q : ℕ) → q ≤ 99 → card_fits card q ≡ true
zeros_fit q h = sym (card_fits_lem card q (omega arith) (omega arith) h true (sym (digits_all 0 card (λ i l. omega (arith, zeros_at 12 i)))))

abbrev one : List DeskCall
one = Add card 0 ∷ []

-- the data of a checking
abbrev sent : List ℕ
sent = replicate 65 0

module _ (k : Issuer) where
  -- what is due, where a card of zeros passes
  add_due : (b : List Holding) (q : ℕ) → q ≤ 99 → holds card q b ≡ false → length b < 64 → due k b (Add card q) ≡ 0
  unfolding due
  add_due b q f h l =
      ap₂ (λ (x y : Bool). first_of (add_tests x y (leb 64 (length b)))) (zeros_fit q f) h
      ∙ ap (λ (x : Bool). first_of (add_tests true false x)) (lt-leb 64 (length b) l)

  forget_due : (b : List Holding) (q : ℕ) → q ≤ 99 → holds card q b ≡ true → due k b (Forget card q) ≡ 0
  unfolding due
  forget_due b q f h = ap₂ (λ (x y : Bool). first_of (forget_tests x y)) (zeros_fit q f) h

  abbrev check : DeskCall
  check = Check card 0 sent (arqc_for k card 0 sent) (replicate 4 0)

  arqc_long : eqb (length (arqc_for k card 0 sent)) 8 ≡ true
  unfolding arqc_for
  arqc_long = eq-eqb _ 8 (length-cryptogram (session_for k card 0 sent) Arqc (counter_of sent) sent)

  check_due : (b : List Holding) (l : Option ℕ) → holds card 0 b ≡ true → last_of card 0 b ≡ l → due k b check ≡ cond (is_above (counter_of sent) l) 0 23
  unfolding due
  check_due b l h e =
      let x = same (arqc_for k card 0 sent) (arqc_for k card 0 sent) in
      let a = is_above (counter_of sent) (last_of card 0 b) in
      ap₂ (λ (y z : Bool). first_of (check_tests (y && true) z (holds card 0 b) x a)) arqc_long (zeros_fit 0 (omega arith))
      ∙ ap₂ (λ (y z : Bool). first_of (check_tests true true y z a)) h (same_refl (arqc_for k card 0 sent))
      ∙ ap (λ (y : Option ℕ). first_of (check_tests true true true true (is_above (counter_of sent) y))) e
      ∙ go (is_above (counter_of sent) l)
    where
      go : (y : Bool) → first_of (check_tests true true true true y) ≡ cond y 0 23
      go true = refl
      go false = refl

  -- the card added, then checked, then checked again
  first_due : due_after k [] (Add card 0) ≡ 0
  unfolding book holds
  first_due = add_due [] 0 (omega arith) refl (omega arith)

  one_book : book k one ≡ record { pan = card; sequence = 0; last = None } ∷ []
  unfolding book
  one_book = taken k [] (Add card 0) (eq-eqb _ 0 first_due)

  one_held : holds card 0 (book k one) ≡ true
  unfolding is_of holds
  one_held = ap (holds card 0) one_book ∙ ap (λ (x : Bool). x || false) (card_refl card 0)

  one_last : last_of card 0 (book k one) ≡ None
  unfolding is_of last_of
  one_last = ap (last_of card 0) one_book ∙ ap (λ (x : Bool). cond x None None) (card_refl card 0)

  once_due : due_after k one check ≡ 0
  once_due = check_due (book k one) None one_held one_last

  again_due : due_after k (check ∷ one) check ≡ 23
  again_due =
      let n = counter_of sent in
      let e = taken k one check (eq-eqb _ 0 once_due) in
      check_due (book k (check ∷ one)) (Some n) (ap (holds card 0) e ∙ kept_holds card 0 n card 0 (book k one) ∙ one_held)
      (ap (last_of card 0) e ∙ kept_own card 0 n (book k one) one_held)
      ∙ ap (λ (x : Bool). cond x 0 23) (le-ltb n n (omega arith))

-- some issuer
abbrev issuer : Issuer
issuer = record { ac = replicate 32 0; smi = replicate 32 0; smc = replicate 32 0; packed = false }

pub refuses_everything_lem : Demanded refuses_everything → ⊥
refuses_everything_lem h = eqb-false 1 0 refl (h.numbers issuer [] (Add card 0) ∙ first_due issuer)

pub never_keeps_lem : Demanded never_keeps → ⊥
never_keeps_lem h = eqb-false 0 23 refl (sym (once_due issuer) ∙ h.numbers issuer (check issuer ∷ one) (check issuer) ∙ again_due issuer)

-- cards by their sequence numbers, the addings of n of them, and what the book then holds
adds_of : ℕ → List DeskCall
adds_of zero = []
adds_of (suc n) = Add card n ∷ adds_of n

cards_of : ℕ → List Holding
cards_of zero = []
cards_of (suc n) = record { pan = card; sequence = n; last = None } ∷ cards_of n

cards_length : (n : ℕ) → length (cards_of n) ≡ n
unfolding cards_of
cards_length zero = refl
cards_length (suc n) = ap suc (cards_length n)

cards_new : (n q : ℕ) → n ≤ q → holds card q (cards_of n) ≡ false
unfolding cards_of is_of holds
cards_new zero q h = refl
cards_new (suc n) q h =
    ap₂ (λ (x y : Bool). x || y) (ap₂ (λ (x y : Bool). x && y) (same_refl card) (ne_eqb q n (λ e. omega (arith, add-one n)))) (cards_new n q (omega (arith, add-one n)))

cards_held : (n : ℕ) → holds card n (cards_of (suc n)) ≡ true
unfolding cards_of is_of holds
cards_held n = ap (λ (x : Bool). x || holds card n (cards_of n)) (card_refl card n)

-- 64 cards, of which one is forgotten
abbrev full : List DeskCall
full = adds_of 64

abbrev forgotten : List DeskCall
forgotten = Forget card 63 ∷ full

module _ (k : Issuer) where
  next_due : (n : ℕ) → n < 64 → book k (adds_of n) ≡ cards_of n → due_after k (adds_of n) (Add card n) ≡ 0
  next_due n h e =
      ap (λ (b : List Holding). due k b (Add card n)) e
      ∙ add_due k (cards_of n) n (omega arith) (cards_new n n (omega arith)) (omega (arith, cards_length n))

  adds_book : (n : ℕ) → n ≤ 64 → book k (adds_of n) ≡ cards_of n
  unfolding book adds_of cards_of
  adds_book zero h = refl
  adds_book (suc n) h =
      let e = adds_book n (omega (arith, add-one n)) in
      taken k (adds_of n) (Add card n) (eq-eqb _ 0 (next_due n (omega (arith, add-one n)) e)) ∙ ap (writes (Add card n)) e

  adds_count : (n : ℕ) → n ≤ 64 → addings k (adds_of n) ≡ n
  unfolding addings adds_of
  adds_count zero h = refl
  adds_count (suc n) h =
      ap (λ (x : Bool). cond x (suc (addings k (adds_of n))) (addings k (adds_of n)))
      (eq-eqb _ 0 (next_due n (omega (arith, add-one n)) (adds_book n (omega (arith, add-one n)))))
      ∙ ap suc (adds_count n (omega (arith, add-one n)))

  -- there is room for one more
  forgets_it : due_after k full (Forget card 63) ≡ 0
  forgets_it = forget_due k (book k full) 63 (omega arith) (ap (holds card 63) (adds_book 64 (omega arith)) ∙ cards_held 63)

  room_again : due_after k forgotten (Add card 64) ≡ 0
  room_again =
      let e = taken k full (Forget card 63) (eq-eqb _ 0 forgets_it) in
      let f = adds_book 64 (omega arith) in
      let there : holds card 63 (book k full) ≡ true = ap (holds card 63) f ∙ cards_held 63 in
      add_due k (book k forgotten) 64 (omega arith)
      (ap (holds card 64) e ∙ struck_absent card 63 card 64 (book k full) (ap (holds card 64) f ∙ cards_new 64 64 (omega arith)))
      (omega (arith, ap length e, struck_length card 63 (book k full) (each_once k full) there, ap length f, cards_length 64))

  all_noted : (cs : List DeskCall) → reached no_room_again k cs ≡ noted k cs
  all_noted [] = refl
  all_noted (c ∷ cs) = ap (λ (s : Noted). noted s.issuer (c ∷ s.calls)) (all_noted cs)

  finds_none : (answered no_room_again k forgotten (Add card 64)).number ≡ 21
  unfolding addings
  finds_none =
      ap (λ (s : Noted). (no_room_again.answer s (Add card 64)).number) (all_noted forgotten)
      ∙ ap₂ (λ (x y : Bool). cond (x && y) 21 (due_after k forgotten (Add card 64))) (eq-eqb _ 0 room_again) (le-leb 64 (addings k full) (omega (arith, adds_count 64 (omega arith))))

pub no_room_again_lem : Demanded no_room_again → ⊥
no_room_again_lem h = eqb-false 21 0 refl (sym (finds_none issuer) ∙ h.numbers issuer forgotten (Add card 64) ∙ room_again issuer)
