-- A turn of each loop, and one law for each way out. Assumes nothing.
use Prim.Native.Nat.{ℕ, suc, ◌+◌, ◌≤◌, ◌<◌}
use native.Mathlib.Omega.{arith}
use native.Mathlib.Numerals.{add-one}
use mathlib.Core.Path.{◌≡◌, refl, sym, ap, ◌∙◌}
use mathlib.Core.Bool.{Bool, true, false, not, ◌&&◌, ◌||◌, cond}
use mathlib.Core.List.{List, [], ◌∷◌, ◌++◌}
use lib.Dec.{eqb, ltb}
use lib.ListN.{length, get_or, take, drop, set, drop_of_length-le}
use lib.Pointwise.{pointwise}
use lib.Seq.{drop-cons, take-suc-set, drop-set-lt, take_all, append_snoc}
use borrow.Author.Tests.{ltb-true, ltb-false, not-true, not-false}
use Rattle.std.specs.Prelude.{Option, Some, None, Result, Ok, Err}
use Rattle.answers.specs.declared.Refusal.{Refusal}
use Rattle.answers.specs.declared.Refusal.TheVariants.{UnknownCard, AlreadyHeld, TableFull}
use Rattle.std.specs.Option.{ok_or}
use Rattle.std.specs.List.{list_any, find, position, position_or_len}
use Rattle.octets.specs.Same.{same}
use Rattle.octets.proofs.PointwiseLaws.{pointwise_same}
use Rattle.table.specs.declared.CardId.{CardId}
use Rattle.table.specs.declared.Entry.{Entry}
use Rattle.table.specs.declared.Last.{Last}
use Rattle.table.specs.Table.{same_id, names, held, room}
use Rattle.table.specs.Calls.{fresh, empty, placed, adding, each, cleared_entry, forgetting, kept_entry, keeping, reading}

-- the derived test: digits, count, sequence
swapped : (p q r : Bool) → (p && (q && r)) ≡ (q && (r && p))
swapped true true true = refl
swapped true true false = refl
swapped true false r = refl
swapped false true true = refl
swapped false true false = refl
swapped false false r = refl

pub id_derived : (a b : CardId) → (pointwise eqb a.digits b.digits && (eqb a.count b.count && eqb a.sequence b.sequence)) ≡ same_id a b
unfolding same_id
id_derived a b =
    ap (λ (p : Bool). p && (eqb a.count b.count && eqb a.sequence b.sequence)) (pointwise_same a.digits b.digits)
    ∙ swapped (same a.digits b.digits) (eqb a.count b.count) (eqb a.sequence b.sequence)

-- a place after a card is forgotten, and after a counter is kept
module _ (c : CardId) (e : Entry) (b : Bool) (w : b ≡ names c e) where
  pub cleared_yes : b ≡ true → empty ≡ cleared_entry c e
  unfolding cleared_entry
  cleared_yes h = rw (sym w ∙ h)

  pub cleared_no : b ≡ false → e ≡ cleared_entry c e
  unfolding cleared_entry
  cleared_no h = rw (sym w ∙ h)

  pub kept_yes : (n : ℕ) → b ≡ true → record { held = e.held; id = e.id; known = true; last = n } ≡ kept_entry c n e
  unfolding kept_entry
  kept_yes n h = rw (sym w ∙ h)

  pub kept_no : (n : ℕ) → b ≡ false → e ≡ kept_entry c n e
  unfolding kept_entry
  kept_no n h = rw (sym w ∙ h)

-- what the searches through the places find
pub held_any : (c : CardId) (t : List Entry) → list_any (names c) t ≡ held c t
unfolding held
held_any c [] = refl
held_any c (e ∷ t) = ap (λ (r : Bool). names c e || r) (held_any c t)

-- what a place keeps of a last counter
abbrev kept_by : Entry → Last
kept_by e = record { known = e.known; last = e.last }

pub reading_first : (c : CardId) (t : List Entry) (e : Entry) → find (names c) t ≡ Some e → Ok (kept_by e) ≡ reading c t
unfolding reading
reading_first c [] e h = absurd (cc)
reading_first c (x ∷ t) e h = go (names c x) h (reading_first c t e)
  where
    go : (b : Bool) → cond b (Some x) (find (names c) t) ≡ Some e → (find (names c) t ≡ Some e → Ok (kept_by e) ≡ reading c t) → Ok (kept_by e) ≡ cond b (Ok (kept_by x)) (reading c t)
    go true k ih = let f : e ≡ x = cc in rw f
    go false k ih = ih k

-- l is the counter that the entry says
pub reading_said : (c : CardId) (t : List Entry) (e : Entry) → find (names c) t ≡ Some e → {l : ℕ} → l ≡ e.last
    → Ok (record { known = e.known; last = l }) ≡ reading c t
reading_said c t e h f = ap {B = Result Last Refusal} (λ (j : ℕ). Ok (record { known = e.known; last = j })) f ∙ reading_first c t e h

pub reading_none : (c : CardId) (t : List Entry) → find (names c) t ≡ None → Err UnknownCard ≡ reading c t
unfolding reading
reading_none c [] h = refl
reading_none c (x ∷ t) h = go (names c x) h (reading_none c t)
  where
    go : (b : Bool) → cond b (Some x) (find (names c) t) ≡ None → (find (names c) t ≡ None → Err UnknownCard ≡ reading c t) → Err UnknownCard ≡ cond b (Ok (kept_by x)) (reading c t)
    go true k ih = absurd (cc)
    go false k ih = ih k

-- the same at each place: done before i, left from i on
pub each_turn : (f : Entry → Entry) (t : List Entry) (i : ℕ) (d v : Entry) → i < length t → v ≡ f (get_or t i d)
    → take (i + 1) (set t i v) ++ each f (drop (i + 1) (set t i v)) ≡ take i t ++ each f (drop i t)
unfolding each
each_turn f t i d v h e =
    rw (add-one, take-suc-set t i v h, drop-set-lt (suc i) t i v (omega (arith, add-one i)), append_snoc, drop-cons t i d h, e)

pub each_end : (f : Entry → Entry) (t : List Entry) (i : ℕ) → length t ≤ i → take i t ++ each f (drop i t) ≡ t
unfolding each
each_end f t i h = rw (drop_of_length-le t {i = i} h, take_all i t h) (go t)
  where
    go : (l : List Entry) → l ++ [] ≡ l
    go [] = refl
    go (x ∷ l) = ap (λ (z : List Entry). x ∷ z) (go l)

-- the first free place
abbrev free : Entry → Bool
free e = not e.held

add-one′ : (n : ℕ) → 1 + n ≡ suc n
add-one′ n = omega (arith, add-one n)

free_le : (t : List Entry) → position_or_len free t ≤ length t
free_le [] = omega arith
free_le (e ∷ t) = go e.held (free_le t)
  where
    go : (b : Bool) → position_or_len free t ≤ length t → cond (not (not b)) (1 + position_or_len free t) 0 ≤ suc (length t)
    go true p = omega (arith, add-one (length t))
    go false p = omega arith

no_room : (t : List Entry) → position_or_len free t ≡ length t → room t ≡ false
unfolding room
no_room [] h = refl
no_room (e ∷ t) h = go e.held h (no_room t)
  where
    go : (b : Bool) → cond (not (not b)) (1 + position_or_len free t) 0 ≡ suc (length t) → (position_or_len free t ≡ length t → room t ≡ false) → (not b || room t) ≡ false
    go true p ih = ih (omega (arith, p, add-one (length t)))
    go false p ih = let w : ⊥ = omega (arith, p, add-one (length t)) in absurd w

free_placed : (c : CardId) (t : List Entry) → (position_or_len free t ≡ length t → ⊥) → (room t ≡ true) × (set t (position_or_len free t) (fresh c) ≡ placed c t)
unfolding room placed
free_placed c [] h = absurd (h refl)
free_placed c (e ∷ t) h = go e.held h (free_placed c t)
  where
    go : (b : Bool) → (cond (not (not b)) (1 + position_or_len free t) 0 ≡ suc (length t) → ⊥)
        → ((position_or_len free t ≡ length t → ⊥) → (room t ≡ true) × (set t (position_or_len free t) (fresh c) ≡ placed c t))
        → ((not b || room t) ≡ true) × (set (e ∷ t) (cond (not (not b)) (1 + position_or_len free t) 0) (fresh c) ≡ cond b (e ∷ placed c t) (fresh c ∷ t))
    go true p ih =
        let x = ih (λ q. p (add-one′ _ ∙ ap suc q)) in
        (x.0, rw (add-one′ (position_or_len free t)) (ap (λ (z : List Entry). e ∷ z) x.1))
    go false p ih = (refl, refl)

pub full : (t : List Entry) → position free t ≡ None → room t ≡ false
full t h = go (ltb (position_or_len free t) (length t)) refl h
  where
    go : (b : Bool) → ltb (position_or_len free t) (length t) ≡ b → cond b (Some (position_or_len free t)) None ≡ None → room t ≡ false
    go true e k = absurd (cc)
    go false e k = no_room t (let m = ltb-false _ _ e in let l = free_le t in omega arith)

pub found : (c : CardId) (t : List Entry) (i : ℕ) → position free t ≡ Some i → (room t ≡ true) × (set t i (fresh c) ≡ placed c t)
found c t i h = go (ltb (position_or_len free t) (length t)) refl h
  where
    go : (b : Bool) → ltb (position_or_len free t) (length t) ≡ b → cond b (Some (position_or_len free t)) None ≡ Some i → (room t ≡ true) × (set t i (fresh c) ≡ placed c t)
    go true e k =
        let l = ltb-true _ _ e in
        let z = free_placed c t (λ q. omega arith) in
        let f : position_or_len free t ≡ i = cc in
        (z.0, rw (sym f) z.1)
    go false e k = absurd (cc)

-- the calls
module _ (c : CardId) (t : List Entry) (b : Bool) (w : b ≡ held c t) where
  pub add_held : b ≡ true → Err AlreadyHeld ≡ adding c t
  unfolding adding
  add_held h = rw (sym w ∙ h)

  module _ (h : b ≡ false) (o : Option ℕ) (f : o ≡ position free t) (r : Result ℕ Refusal) (v : r ≡ ok_or o TableFull) where
    pub add_no_room : (q : Refusal) → r ≡ Err q → Err q ≡ adding c t
    unfolding adding
    add_no_room q k = go o f (sym v ∙ k)
      where
        go : (o : Option ℕ) → o ≡ position free t → ok_or o TableFull ≡ Err q → Err q ≡ cond (held c t) (Err AlreadyHeld) (cond (room t) (Ok (placed c t)) (Err TableFull))
        go None e l = let g : q ≡ TableFull = cc in rw (sym w ∙ h, full t (sym e)) (ap Err g)
        go (Some i) e l = absurd (cc)

    pub add_done : (i : ℕ) (x : Entry) → r ≡ Ok i → x ≡ fresh c → Ok (set t i x) ≡ adding c t
    unfolding adding
    add_done i x k y = go o f (sym v ∙ k)
      where
        go : (o : Option ℕ) → o ≡ position free t → ok_or o TableFull ≡ Ok i → Ok (set t i x) ≡ cond (held c t) (Err AlreadyHeld) (cond (room t) (Ok (placed c t)) (Err TableFull))
        go None e l = absurd (cc)
        go (Some j) e l =
            let g : j ≡ i = cc in
            let z = found c t i (sym e ∙ ap Some g) in
            rw (sym w ∙ h, z.0) (ap Ok (rw y z.1))

  pub forget_none : not b ≡ true → Err UnknownCard ≡ forgetting c t
  unfolding forgetting
  forget_none h = rw (sym w ∙ not-true _ h)

  pub keep_none : (n : ℕ) → not b ≡ true → Err UnknownCard ≡ keeping c n t
  unfolding keeping
  keep_none n h = rw (sym w ∙ not-true _ h)

  module _ (h : not b ≡ false) (u : List Entry) (i : ℕ) (l : length u ≤ i) where
    pub forget_done : take i u ++ each (cleared_entry c) (drop i u) ≡ each (cleared_entry c) t → Ok u ≡ forgetting c t
    unfolding forgetting
    forget_done v = rw (sym w ∙ not-false _ h) (ap Ok (sym (each_end (cleared_entry c) u i l) ∙ v))

    pub keep_done : (n : ℕ) → take i u ++ each (kept_entry c n) (drop i u) ≡ each (kept_entry c n) t → Ok u ≡ keeping c n t
    unfolding keeping
    keep_done n v = rw (sym w ∙ not-false _ h) (ap Ok (sym (each_end (kept_entry c n) u i l) ∙ v))
