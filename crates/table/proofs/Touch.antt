-- What a call about a card touches: it goes by the card's own readings and the room alone, and changes no other card's readings. Assumes nothing.
use Prim.Native.Nat.{ℕ, suc, ◌+◌, ◌≤◌}
use native.Mathlib.Omega.{arith}
use native.Mathlib.Numerals.{add-one}
use mathlib.Core.Path.{◌≡◌, refl, sym, ap, ap₂, ◌∙◌, subst⁻¹}
use mathlib.Core.Bool.{Bool, true, false, not, ◌&&◌, ◌||◌, cond, true≢false, false≢true}
use mathlib.Core.List.{List, [], ◌∷◌}
use Rattle.std.specs.Prelude.{Option, None, Some, Result, Ok, Err}
use lib.Dec.{eqb, ltb}
use lib.ListN.{length}
use borrow.Author.Tests.{eq-eqb, eqb-true, lt-ltb, le-ltb, ltb-true, ltb-false}
use Rattle.answers.specs.declared.Refusal.{Refusal}
use Rattle.answers.specs.declared.Refusal.TheVariants.{UnknownCard, AlreadyHeld, TableFull}
use Rattle.octets.specs.Same.{same}
use Rattle.octets.proofs.SameLaws.{same_true, same_refl}
use Rattle.table.specs.declared.CardId.{CardId}
use Rattle.table.specs.declared.Entry.{Entry}
use Rattle.table.specs.Table.{same_id, names, held, room, counter_of, readings, held_count}
use Rattle.table.specs.Calls.{fresh, empty, placed, adding, each, cleared_entry, forgetting, kept_entry, keeping, reading}
use Rattle.table.specs.Acts.{Use, Act, adds, forgets, uses, last_of, table_after, kept_in, plainly, used, run}
use Rattle.table.specs.Seen.{is_some, first, over, over_by, only, taken, seen, view}

-- the test is equality
abbrev mk : List ℕ → ℕ → ℕ → CardId
mk d n s = record { digits = d; count = n; sequence = s }

pub id_equal : (a b : CardId) → same_id a b ≡ true → a ≡ b
unfolding same_id
id_equal a b h = go (eqb a.count b.count) (eqb a.sequence b.sequence) refl refl h
  where
    go : (p q : Bool) → eqb a.count b.count ≡ p → eqb a.sequence b.sequence ≡ q → (p && (q && same a.digits b.digits)) ≡ true → a ≡ b
    go true true u v w =
        ap (λ (d : List ℕ). mk d a.count a.sequence) (same_true _ _ w) ∙ ap₂ (λ (n s : ℕ). mk b.digits n s) (eqb-true _ _ u) (eqb-true _ _ v)
    go true false u v w = absurd (true≢false (sym w))
    go false q u v w = absurd (true≢false (sym w))

pub id_refl : (a : CardId) → same_id a a ≡ true
unfolding same_id
id_refl a = rw (eq-eqb a.count a.count refl, eq-eqb a.sequence a.sequence refl) (same_refl a.digits)

pub id_other : (a b : CardId) → same_id a b ≡ false → same_id b a ≡ false
id_other a b h = go (same_id b a) refl
  where
    go : (p : Bool) → same_id b a ≡ p → p ≡ false
    go true u = absurd (true≢false (sym (ap (λ (x : CardId). same_id a x) (id_equal b a u) ∙ id_refl a) ∙ h))
    go false u = refl

-- a place that holds one card holds no other
names_other : (m c : CardId) (e : Entry) → same_id m c ≡ false → names c e ≡ true → names m e ≡ false
unfolding names
names_other m c e h w = go e.held (same_id c e.id) refl w
  where
    go : (b s : Bool) → same_id c e.id ≡ s → (b && s) ≡ true → (b && same_id m e.id) ≡ false
    go true true u v = sym (ap (same_id m) (id_equal c e.id u)) ∙ h
    go true false u v = absurd (true≢false (sym v))
    go false s u v = refl

names_held : (c : CardId) (e : Entry) → names c e ≡ true → e.held ≡ true
unfolding names
names_held c e w = go e.held w
  where
    go : (b : Bool) → (b && same_id c e.id) ≡ true → b ≡ true
    go true v = refl
    go false v = v

-- one place more in front
reads_nil : (m : CardId) → readings m [] ≡ []
unfolding readings
reads_nil m = refl

read_cons : (m : CardId) (e : Entry) (t : List Entry) (b : Bool) → names m e ≡ b → readings m (e ∷ t) ≡ cond b (counter_of e ∷ readings m t) (readings m t)
unfolding readings
read_cons m e t b h = ap (λ (x : Bool). cond x (counter_of e ∷ readings m t) (readings m t)) h

count_cons : (e : Entry) (t : List Entry) (b : Bool) → e.held ≡ b → held_count (e ∷ t) ≡ cond b 1 0 + held_count t
unfolding held_count
count_cons e t b h = ap (λ (x : Bool). cond x 1 0 + held_count t) h

-- a card is held where it has a reading
pub held_reads : (c : CardId) (t : List Entry) → held c t ≡ is_some (readings c t)
unfolding held readings
held_reads c [] = refl
held_reads c (e ∷ t) = go (names c e) (held_reads c t)
  where
    go : (b : Bool) → held c t ≡ is_some (readings c t) → (b || held c t) ≡ is_some (cond b (counter_of e ∷ readings c t) (readings c t))
    go true ih = refl
    go false ih = ih

pub last_reads : (c : CardId) (t : List Entry) → last_of (reading c t) ≡ first (readings c t)
unfolding reading readings counter_of
last_reads c [] = refl
last_reads c (e ∷ t) = go (names c e) (last_reads c t)
  where
    go : (b : Bool) → last_of (reading c t) ≡ first (readings c t)
        → last_of (cond b (Ok (record { known = e.known; last = e.last })) (reading c t)) ≡ first (cond b (counter_of e ∷ readings c t) (readings c t))
    go true ih = refl
    go false ih = ih

-- the room is what is not held
pub count_le : (t : List Entry) → held_count t ≤ length t
unfolding held_count
count_le [] = omega arith
count_le (e ∷ t) = go e.held (count_le t)
  where
    go : (b : Bool) → held_count t ≤ length t → cond b 1 0 + held_count t ≤ suc (length t)
    go true ih = omega (arith, add-one (length t))
    go false ih = omega (arith, add-one (length t))

ltb_one : (m n : ℕ) → ltb m n ≡ ltb (1 + m) (suc n)
ltb_one m n = go (ltb m n) refl
  where
    go : (x : Bool) → ltb m n ≡ x → x ≡ ltb (1 + m) (suc n)
    go true p = sym (lt-ltb (1 + m) (suc n) (omega (arith, ltb-true m n p, add-one n)))
    go false p = sym (le-ltb (1 + m) (suc n) (omega (arith, ltb-false m n p, add-one n)))

pub room_count : (t : List Entry) → room t ≡ ltb (held_count t) (length t)
unfolding room held_count
room_count [] = sym (le-ltb 0 0 (omega arith))
room_count (e ∷ t) = go e.held (room_count t)
  where
    go : (b : Bool) → room t ≡ ltb (held_count t) (length t) → (not b || room t) ≡ ltb (cond b 1 0 + held_count t) (suc (length t))
    go true ih = ih ∙ ltb_one (held_count t) (length t)
    go false ih = sym (lt-ltb (0 + held_count t) (suc (length t)) (omega (arith, count_le t, add-one (length t))))

-- an entry that holds nothing
unheld : (m : CardId) (e : Entry) → e.held ≡ false → names m e ≡ false
unfolding names
unheld m e h = ap (λ (b : Bool). b && same_id m e.id) h

fresh_own : (c : CardId) → names c (fresh c) ≡ true
unfolding names
fresh_own c = id_refl c

fresh_reads : (c : CardId) → counter_of (fresh c) ≡ None
unfolding counter_of
fresh_reads c = refl

nothing : {r : List (Option ℕ)} {x : Option ℕ} → x ∷ r ≡ [] → ⊥
nothing e = true≢false (ap is_some e)

-- a card is placed
module _ (c : CardId) where
  pub placed_own : (t : List Entry) → room t ≡ true → readings c t ≡ [] → readings c (placed c t) ≡ None ∷ []
  unfolding room placed
  placed_own [] r h = absurd (false≢true r)
  placed_own (e ∷ t) r h = go e.held (names c e) refl refl r (placed_own t)
    where
      go : (b s : Bool) → e.held ≡ b → names c e ≡ s → (not b || room t) ≡ true → (room t ≡ true → readings c t ≡ [] → readings c (placed c t) ≡ None ∷ [])
          → readings c (cond b (e ∷ placed c t) (fresh c ∷ t)) ≡ None ∷ []
      go true true p q k ih = absurd (nothing (sym (read_cons c e t true q) ∙ h))
      go true false p q k ih = read_cons c e (placed c t) false q ∙ ih k (sym (read_cons c e t false q) ∙ h)
      go false s p q k ih =
          read_cons c (fresh c) t true (fresh_own c)
          ∙ ap₂ (λ (x : Option ℕ) (r : List (Option ℕ)). x ∷ r) (fresh_reads c) (sym (read_cons c e t false (unheld c e p)) ∙ h)

  pub placed_other : (m : CardId) → same_id m c ≡ false → (t : List Entry) → readings m (placed c t) ≡ readings m t
  unfolding placed
  placed_other m d [] = refl
  placed_other m d (e ∷ t) = go e.held (names m e) refl refl (placed_other m d t)
    where
      go : (b s : Bool) → e.held ≡ b → names m e ≡ s → readings m (placed c t) ≡ readings m t
          → readings m (cond b (e ∷ placed c t) (fresh c ∷ t)) ≡ readings m (e ∷ t)
      go true s p q ih =
          read_cons m e (placed c t) s q ∙ ap (λ (r : List (Option ℕ)). cond s (counter_of e ∷ r) r) ih ∙ sym (read_cons m e t s q)
      go false s p q ih =
          read_cons m (fresh c) t false (names_other m c (fresh c) d (fresh_own c)) ∙ sym (read_cons m e t false (unheld m e p))

  pub placed_count : (t : List Entry) → room t ≡ true → held_count (placed c t) ≡ held_count t + 1
  unfolding room placed
  placed_count [] r = absurd (false≢true r)
  placed_count (e ∷ t) r = go e.held refl r (placed_count t)
    where
      go : (b : Bool) → e.held ≡ b → (not b || room t) ≡ true → (room t ≡ true → held_count (placed c t) ≡ held_count t + 1)
          → held_count (cond b (e ∷ placed c t) (fresh c ∷ t)) ≡ held_count (e ∷ t) + 1
      go true p k ih = omega (arith, count_cons e (placed c t) true p, count_cons e t true p, ih k)
      go false p k ih = omega (arith, count_cons (fresh c) t true refl, count_cons e t false p)

  pub placed_length : (t : List Entry) → length (placed c t) ≡ length t
  unfolding placed
  placed_length [] = refl
  placed_length (e ∷ t) = go e.held (placed_length t)
    where
      go : (b : Bool) → length (placed c t) ≡ length t → length (cond b (e ∷ placed c t) (fresh c ∷ t)) ≡ suc (length t)
      go true ih = ap suc ih
      go false ih = refl

-- a change at the places that hold the card alone, which leaves other cards' readings
pub each_length : (f : Entry → Entry) (t : List Entry) → length (each f t) ≡ length t
unfolding each
each_length f [] = refl
each_length f (e ∷ t) = ap suc (each_length f t)

-- a card is forgotten
module _ (c : CardId) where
  cleared_at : (e : Entry) (s : Bool) → names c e ≡ s → cleared_entry c e ≡ cond s empty e
  unfolding cleared_entry
  cleared_at e s q = ap (λ (b : Bool). cond b empty e) q

  pub cleared_own : (t : List Entry) → readings c (each (cleared_entry c) t) ≡ []
  unfolding each
  cleared_own [] = reads_nil c
  cleared_own (e ∷ t) = go (names c e) refl (cleared_own t)
    where
      go : (s : Bool) → names c e ≡ s → readings c (each (cleared_entry c) t) ≡ [] → readings c (cleared_entry c e ∷ each (cleared_entry c) t) ≡ []
      go true q ih = read_cons c (cleared_entry c e) (each (cleared_entry c) t) false (ap (names c) (cleared_at e true q) ∙ unheld c empty refl) ∙ ih
      go false q ih = read_cons c (cleared_entry c e) (each (cleared_entry c) t) false (ap (names c) (cleared_at e false q) ∙ q) ∙ ih

  pub cleared_other : (m : CardId) → same_id m c ≡ false → (t : List Entry) → readings m (each (cleared_entry c) t) ≡ readings m t
  unfolding each
  cleared_other m d [] = refl
  cleared_other m d (e ∷ t) = go (names c e) (names m e) refl refl (cleared_other m d t)
    where
      go : (s u : Bool) → names c e ≡ s → names m e ≡ u → readings m (each (cleared_entry c) t) ≡ readings m t
          → readings m (cleared_entry c e ∷ each (cleared_entry c) t) ≡ readings m (e ∷ t)
      go true u q w ih =
          read_cons m (cleared_entry c e) (each (cleared_entry c) t) false (ap (names m) (cleared_at e true q) ∙ unheld m empty refl) ∙ ih ∙ sym (read_cons m e t false (names_other m c e d q))
      go false u q w ih =
          ap (λ (x : Entry). readings m (x ∷ each (cleared_entry c) t)) (cleared_at e false q)
          ∙ read_cons m e _ u w
          ∙ ap (λ (r : List (Option ℕ)). cond u (counter_of e ∷ r) r) ih
          ∙ sym (read_cons m e t u w)

  pub cleared_count : (t : List Entry) → held_count (each (cleared_entry c) t) + length (readings c t) ≡ held_count t
  unfolding each readings held_count
  cleared_count [] = refl
  cleared_count (e ∷ t) = go (names c e) refl (cleared_count t)
    where
      go : (s : Bool) → names c e ≡ s → held_count (each (cleared_entry c) t) + length (readings c t) ≡ held_count t
          → held_count (cleared_entry c e ∷ each (cleared_entry c) t) + length (readings c (e ∷ t)) ≡ held_count (e ∷ t)
      go true q ih =
          omega (
            arith,
            ap (λ (x : Entry). held_count (x ∷ each (cleared_entry c) t)) (cleared_at e true q),
            ap length (read_cons c e t true q),
            count_cons e t true (names_held c e q),
            add-one (length (readings c t)),
          )
      go false q ih =
          omega (
            arith,
            ap (λ (x : Entry). held_count (x ∷ each (cleared_entry c) t)) (cleared_at e false q),
            ap length (read_cons c e t false q),
            count_cons e t e.held refl,
            count_cons e (each (cleared_entry c) t) e.held refl,
          )

-- a counter is kept
pub over_length : (n : ℕ) (r : List (Option ℕ)) → length (over n r) ≡ length r
over_length n [] = refl
over_length n (x ∷ r) = ap suc (over_length n r)

module _ (c : CardId) (n : ℕ) where
  abbrev kept_as : Entry → Entry
  kept_as e = record { held = e.held; id = e.id; known = true; last = n }

  kept_at : (e : Entry) (s : Bool) → names c e ≡ s → kept_entry c n e ≡ cond s (kept_as e) e
  unfolding kept_entry
  kept_at e s q = ap (λ (b : Bool). cond b (kept_as e) e) q

  names_kept : (m : CardId) (e : Entry) → names m (kept_as e) ≡ names m e
  unfolding names
  names_kept m e = refl

  reads_kept : (e : Entry) → counter_of (kept_as e) ≡ Some n
  unfolding counter_of
  reads_kept e = refl

  pub kept_own : (t : List Entry) → readings c (each (kept_entry c n) t) ≡ over n (readings c t)
  unfolding each
  kept_own [] = reads_nil c ∙ sym (ap (over n) (reads_nil c))
  kept_own (e ∷ t) = go (names c e) refl (kept_own t)
    where
      go : (s : Bool) → names c e ≡ s → readings c (each (kept_entry c n) t) ≡ over n (readings c t) → readings c (kept_entry c n e ∷ each (kept_entry c n) t) ≡ over n (readings c (e ∷ t))
      go true q ih =
          read_cons c (kept_entry c n e) (each (kept_entry c n) t) true (ap (names c) (kept_at e true q) ∙ names_kept c e ∙ q)
          ∙ ap₂ (λ (x : Option ℕ) (r : List (Option ℕ)). x ∷ r) (ap counter_of (kept_at e true q) ∙ reads_kept e) ih
          ∙ sym (ap (over n) (read_cons c e t true q))
      go false q ih =
          read_cons c (kept_entry c n e) (each (kept_entry c n) t) false (ap (names c) (kept_at e false q) ∙ q) ∙ ih ∙ sym (ap (over n) (read_cons c e t false q))

  pub kept_other : (m : CardId) → same_id m c ≡ false → (t : List Entry) → readings m (each (kept_entry c n) t) ≡ readings m t
  unfolding each
  kept_other m d [] = refl
  kept_other m d (e ∷ t) = go (names c e) (names m e) refl refl (kept_other m d t)
    where
      go : (s u : Bool) → names c e ≡ s → names m e ≡ u → readings m (each (kept_entry c n) t) ≡ readings m t
          → readings m (kept_entry c n e ∷ each (kept_entry c n) t) ≡ readings m (e ∷ t)
      go true u q w ih =
          let z : names m e ≡ false = names_other m c e d q in
          read_cons m (kept_entry c n e) (each (kept_entry c n) t) false (ap (names m) (kept_at e true q) ∙ names_kept m e ∙ z) ∙ ih ∙ sym (read_cons m e t false z)
      go false u q w ih =
          ap (λ (x : Entry). readings m (x ∷ each (kept_entry c n) t)) (kept_at e false q)
          ∙ read_cons m e _ u w
          ∙ ap (λ (r : List (Option ℕ)). cond u (counter_of e ∷ r) r) ih
          ∙ sym (read_cons m e t u w)

  pub kept_count : (t : List Entry) → held_count (each (kept_entry c n) t) ≡ held_count t
  unfolding each held_count
  kept_count [] = refl
  kept_count (e ∷ t) = go (names c e) refl (kept_count t)
    where
      go : (s : Bool) → names c e ≡ s → held_count (each (kept_entry c n) t) ≡ held_count t
          → held_count (kept_entry c n e ∷ each (kept_entry c n) t) ≡ held_count (e ∷ t)
      go true q ih =
          ap (λ (x : Entry). held_count (x ∷ each (kept_entry c n) t)) (kept_at e true q) ∙ ap (λ (k : ℕ). cond e.held 1 0 + k) ih
      go false q ih =
          ap (λ (x : Entry). held_count (x ∷ each (kept_entry c n) t)) (kept_at e false q) ∙ ap (λ (k : ℕ). cond e.held 1 0 + k) ih

-- the calls
pub none_reads : (r : List (Option ℕ)) → is_some r ≡ false → r ≡ []
none_reads [] h = refl
none_reads (x ∷ r) h = absurd (true≢false h)

-- what a call about c may change of a table: no other card's readings; the places held grow and fall with c's own readings; no place comes or goes
pub record Change (c : CardId) (t u : List Entry) : Type 0 where
  pub others : (m : CardId) → same_id m c ≡ false → readings m u ≡ readings m t
  pub count : held_count u + length (readings c t) ≡ held_count t + length (readings c u)
  pub size : length u ≡ length t

module _ (c : CardId) (t : List Entry) where
  change_none : Change c t t
  change_none = record { others = λ m d. refl; count = refl; size = refl }

  change_placed : room t ≡ true → readings c t ≡ [] → Change c t (placed c t)
  change_placed r h =
      record {
        others = λ m d. placed_other c m d t;
        count = omega (arith, placed_count c t r, ap length (placed_own c t r h), ap length h);
        size = placed_length c t;
      }

  change_cleared : Change c t (each (cleared_entry c) t)
  change_cleared =
      record {
        others = λ m d. cleared_other c m d t;
        count = omega (arith, cleared_count c t, ap length (cleared_own c t));
        size = each_length (cleared_entry c) t;
      }

  change_kept : (n : ℕ) → Change c t (each (kept_entry c n) t)
  change_kept n =
      record {
        others = λ m d. kept_other c n m d t;
        count = omega (arith, kept_count c n t, ap length (kept_own c n t), over_length n (readings c t));
        size = each_length (kept_entry c n) t;
      }

  pub adding_as : (b r : Bool) → held c t ≡ b → room t ≡ r → adding c t ≡ cond b (Err AlreadyHeld) (cond r (Ok (placed c t)) (Err TableFull))
  unfolding adding
  adding_as b r h k = ap₂ (λ (x y : Bool). cond x (Err AlreadyHeld) (cond y (Ok (placed c t)) (Err TableFull))) h k

  pub forgetting_as : (b : Bool) → held c t ≡ b → forgetting c t ≡ cond b (Ok (each (cleared_entry c) t)) (Err UnknownCard)
  unfolding forgetting
  forgetting_as b h = ap (λ (x : Bool). cond x (Ok (each (cleared_entry c) t)) (Err UnknownCard)) h

  pub keeping_as : (n : ℕ) (b : Bool) → held c t ≡ b → keeping c n t ≡ cond b (Ok (each (kept_entry c n) t)) (Err UnknownCard)
  unfolding keeping
  keeping_as n b h = ap (λ (x : Bool). cond x (Ok (each (kept_entry c n) t)) (Err UnknownCard)) h

  -- the readings, in a list and as a test
  by_list : (r : List (Option ℕ)) → readings c t ≡ r → held c t ≡ is_some r
  by_list r h = held_reads c t ∙ ap is_some h

  -- each way out of a call: the table after it
  module _ {A : Type 0} where
    pub run_change : (a : Act A) → Change c t (run a c t).table
    run_change adds = go (readings c t) (room t) refl refl
      where
        go : (r : List (Option ℕ)) (b : Bool) → readings c t ≡ r → room t ≡ b → Change c t (table_after (adding c t) t)
        go [] true h k = subst⁻¹ (λ (x : Result (List Entry) Refusal). Change c t (table_after x t)) (adding_as false true (by_list [] h) k) (change_placed k h)
        go [] false h k = subst⁻¹ (λ (x : Result (List Entry) Refusal). Change c t (table_after x t)) (adding_as false false (by_list [] h) k) change_none
        go (x ∷ r) b h k = subst⁻¹ (λ (y : Result (List Entry) Refusal). Change c t (table_after y t)) (adding_as true b (by_list (x ∷ r) h) k) change_none
    run_change forgets = go (held c t) refl
      where
        go : (b : Bool) → held c t ≡ b → Change c t (table_after (forgetting c t) t)
        go true h = subst⁻¹ (λ (x : Result (List Entry) Refusal). Change c t (table_after x t)) (forgetting_as true h) change_cleared
        go false h = subst⁻¹ (λ (x : Result (List Entry) Refusal). Change c t (table_after x t)) (forgetting_as false h) change_none
    run_change (uses f) = go (held c t) (f (last_of (reading c t))) refl
      where
        keep : (k : Option ℕ) → held c t ≡ true → Change c t (kept_in c k t)
        keep None h = change_none
        keep (Some n) h = subst⁻¹ (λ (x : Result (List Entry) Refusal). Change c t (table_after x t)) (keeping_as n true h) (change_kept n)

        go : (b : Bool) (u : Use A) → held c t ≡ b → Change c t (cond b (used c u t) (record { number = 19; given = None; table = t })).table
        go true u h = keep u.keep h
        go false u h = change_none

    pub run-seen : (a : Act A) → view c (run a c t) ≡ seen a (readings c t) (room t)
    run-seen adds = go (readings c t) (room t) refl refl
      where
        go : (r : List (Option ℕ)) (b : Bool) → readings c t ≡ r → room t ≡ b → view {A = A} c (plainly (adding c t) t) ≡ seen adds r b
        go [] true h k = ap (λ (x : Result (List Entry) Refusal). view {A = A} c (plainly x t)) (adding_as false true (by_list [] h) k) ∙ ap (only {A = A} 0) (placed_own c t k h)
        go [] false h k = ap (λ (x : Result (List Entry) Refusal). view {A = A} c (plainly x t)) (adding_as false false (by_list [] h) k) ∙ ap (only {A = A} 21) h
        go (x ∷ r) b h k = ap (λ (y : Result (List Entry) Refusal). view {A = A} c (plainly y t)) (adding_as true b (by_list (x ∷ r) h) k) ∙ ap (only {A = A} 20) h
    run-seen forgets = go (readings c t) refl
      where
        go : (r : List (Option ℕ)) → readings c t ≡ r → view {A = A} c (plainly (forgetting c t) t) ≡ seen forgets r (room t)
        go [] h = ap (λ (x : Result (List Entry) Refusal). view {A = A} c (plainly x t)) (forgetting_as false (by_list [] h)) ∙ ap (only {A = A} 19) h
        go (x ∷ r) h = ap (λ (y : Result (List Entry) Refusal). view {A = A} c (plainly y t)) (forgetting_as true (by_list (x ∷ r) h)) ∙ ap (only {A = A} 0) (cleared_own c t)
    run-seen (uses f) = go (readings c t) refl (last_of (reading c t)) (last_reads c t)
      where
        keep : (k : Option ℕ) → held c t ≡ true → readings c (kept_in c k t) ≡ over_by k (readings c t)
        keep None h = refl
        keep (Some n) h = ap (λ (x : Result (List Entry) Refusal). readings c (table_after x t)) (keeping_as n true h) ∙ kept_own c n t

        go : (r : List (Option ℕ)) → readings c t ≡ r → (l : Option ℕ) → l ≡ first (readings c t) → view {A = A} c (cond (held c t) (used c (f l) t) (record { number = 19; given = None; table = t })) ≡ seen (uses f) r (room t)
        go [] h l e = ap (λ (b : Bool). view {A = A} c (cond b (used c (f l) t) (record { number = 19; given = None; table = t }))) (by_list [] h) ∙ ap (only {A = A} 19) h
        go (x ∷ r) h l e =
            ap (λ (b : Bool). view {A = A} c (cond b (used c (f l) t) (record { number = 19; given = None; table = t }))) (by_list (x ∷ r) h)
            ∙ ap (λ (y : List (Option ℕ)). record { number = 0; given = Some (f l).answer; after = y }) (keep (f l).keep (by_list (x ∷ r) h))
            ∙ ap₂ (λ (y : Option ℕ) (z : List (Option ℕ)). taken (f y) z) (e ∙ ap first h) h
