-- The objects judged one after the other, and what 0 says of them. Assumes nothing.
use Rattle.std.specs.Prelude.{Ok, Err}
use Rattle.answers.specs.declared.Refusal.TheVariants.{BadObject, TooDeep, TooMany}
use Rattle.answers.specs.Answers.{number_told}
use mathlib.Core.Path.{◌≡◌, refl, sym, ap, ap₂, subst, ◌∙◌}
use mathlib.Core.Bool.{Bool, true, false, ◌&&◌, not, cond}
use mathlib.Core.List.{List, [], ◌∷◌}
use Prim.Native.Nat.{ℕ, ◌+◌, ◌/◌, ◌%◌, ◌≤◌, ◌<◌}
use native.Mathlib.Omega.{arith}
use borrow.Author.Tests.{eq-eqb, ne_eqb, eqb-true, eqb-false, lt-leb, leb-true, ltb-true, not-true, not-false}
use lib.Dec.{eqb, leb, ltb}
use lib.ListN.{length, get_or}
use Rattle.shapes.specs.Length.{largest}
use Rattle.templates.specs.declared.Holder.{Holder}
use Rattle.templates.specs.declared.Holder.TheVariants.{Outer}
use Rattle.templates.specs.declared.Object.{Object}
use Rattle.templates.specs.Reading.{stands, length_fits, judged, verdict}
use Rattle.templates.proofs.HeadLaws.{both}
use Rattle.scripts.specs.Writing.{said, all_lie, length_of_first, open_at, placed, level_after, holder_after, fault_from, objects_fault, check_number}
use Rattle.scripts.specs.Inner.{from, Taken, length_at, firsts, Table, Writable, none, more}
use Rattle.scripts.proofs.FromLaws.{from_next, from_end, length-said}
use Rattle.scripts.proofs.WithinLaws.{Agree, same, longer, length_agree}

-- an object that is judged 0
pub record Judged (f : Bool) (l c : ℕ) : Type 0 where
  pub fit : f ≡ true
  pub deep : l ≤ 4
  pub few : c < 32

pub judged_zero : (f : Bool) (l c : ℕ) → judged f l c ≡ 0 → Judged f l c
unfolding judged verdict
judged_zero f l c e = go f refl (leb l 4) refl (ltb c 32) refl e
  where
    go : (x : Bool) → f ≡ x → (y : Bool) → leb l 4 ≡ y → (z : Bool) → ltb c 32 ≡ z
        → number_told {T = Unit {0}} (cond x (cond y (cond z (Ok (tt {0})) (Err TooMany)) (Err TooDeep)) (Err BadObject)) ≡ 0 → Judged f l c
    go true i true j true k w = record { fit = i; deep = leb-true _ _ j; few = ltb-true _ _ k }
    go true i true j false k w = absurd (omega arith)
    go true i false j z k w = absurd (omega arith)
    go false i y j z k w = absurd (omega arith)

-- a length that the table says is as good as the length
leb_agree : (x y : ℕ) → Agree x y → leb x largest ≡ leb y largest
leb_agree x y (same e) = ap (λ (k : ℕ). leb k largest) e
leb_agree x y (longer p q) = lt-leb _ _ p ∙ sym (lt-leb _ _ q)

placed_agree : (d : ℕ) (h : Holder) (o : Object) (x y : ℕ) → Agree x y → placed d h o x ≡ placed d h o y
unfolding placed
placed_agree d h o x y a =
    ap (λ (z : Bool). leb 1 o.level && (leb o.level d && (stands (open_at d h o.level) o.tag && (length_fits o.tag o.length && z))))
    (leb_agree x y a)

-- one object
module _ (d : ℕ) (h : Holder) (c : ℕ) (o : Object) (os : List Object) where
  abbrev told : ℕ
  told = judged (placed d h o (length_of_first o os)) o.level c

  pub fault_good : told ≡ 0 → fault_from d h c (o ∷ os) ≡ fault_from (level_after o) (holder_after d h o) (c + 1) os
  unfolding fault_from
  fault_good e = simp (eq-eqb _ _ e)

  pub fault_bad : (told ≡ 0 → ⊥) → fault_from d h c (o ∷ os) ≡ told
  unfolding fault_from
  fault_bad e = simp (ne_eqb _ _ e)

pub fault_none : (d : ℕ) (h : Holder) (c : ℕ) → fault_from d h c [] ≡ 0
unfolding fault_from
fault_none d h c = refl

-- the judging goes on after object i: the innermost holder is q at level v
pub record Turned (d : ℕ) (h : Holder) (i v : ℕ) (q : Holder) (n : ℕ) (b : List ℕ) : Type 0 where
  pub few : i < 32
  pub same : fault_from v q (i + 1) (from n b (i + 1)) ≡ fault_from d h i (from n b i)

module _ (b t : List ℕ) (w : Table b t) (d : ℕ) (h : Holder) (i : ℕ) (m : i ≤ 32) (l : i < length b / 10) (o : Object) (ta : Taken b i o)
    (f : Bool) (ef : f ≡ placed d h o (get_or t i 0)) (k : ℕ) (ek : k ≡ judged f o.level i) where
  abbrev n : ℕ
  n = length b / 10

  in_table : i < firsts n
  unfolding firsts
  in_table = go (leb n 192) refl
    where
      go : (x : Bool) → leb n 192 ≡ x → i < cond (leb n 192) n 192
      go true e = subst (λ (z : ℕ). i < z) (sym (ap (λ (z : Bool). cond z n 192) e)) l
      go false e = subst (λ (z : ℕ). i < z) (sym (ap (λ (z : Bool). cond z n 192) e)) (omega arith)

  rests : from n b i ≡ o ∷ from n b (i + 1)
  rests = from_next n b i l ∙ ap (λ (z : Object). z ∷ from n b (i + 1)) (sym ta.is)

  is_length : length_at n b i ≡ length_of_first o (from n b (i + 1))
  unfolding length_at
  is_length = ap (λ (z : Object). length_of_first z (from n b (i + 1))) (sym ta.is)

  is_verdict : k ≡ judged (placed d h o (length_of_first o (from n b (i + 1)))) o.level i
  unfolding Table
  is_verdict =
      ek
      ∙ ap (λ (z : Bool). judged z o.level i)
      (ef
      ∙ ap (placed d h o) (w.each i (omega arith) in_table)
      ∙ placed_agree d h o _ _ (length_agree n b i m)
      ∙ ap (placed d h o) is_length)

  pub fault_stop : (k ≡ 0 → ⊥) → k ≡ fault_from d h i (from n b i)
  fault_stop e = is_verdict ∙ sym (ap (fault_from d h i) rests ∙ fault_bad d h i o (from n b (i + 1)) (λ z. e (is_verdict ∙ z)))

  pub fault_turn : k ≡ 0 → (v : ℕ) → v ≡ level_after o → (q : Holder) → q ≡ holder_after d h o → Turned d h i v q n b
  fault_turn e v ev q eq =
      record {
        few = (judged_zero f o.level i (sym ek ∙ e)).few;
        same =
            ap₂ (λ (x : ℕ) (y : Holder). fault_from x y (i + 1) (from n b (i + 1))) ev eq
            ∙ sym (ap (fault_from d h i) rests ∙ fault_good d h i o (from n b (i + 1)) (sym is_verdict ∙ e));
      }

pub fault_end : (d : ℕ) (h : Holder) (c n : ℕ) (b : List ℕ) (i : ℕ) → n ≤ i → 0 ≡ fault_from d h c (from n b i)
fault_end d h c n b i e = sym (ap (fault_from d h c) (from_end n b i e) ∙ fault_none d h c)

-- what 0 says: there are 32 at most, and they can be written
pub record First (d : ℕ) (h : Holder) (c : ℕ) (o : Object) (os : List Object) : Type 0 where
  pub fits : placed d h o (length_of_first o os) ≡ true
  pub deep : o.level ≤ 4
  pub few : c < 32
  pub rest : fault_from (level_after o) (holder_after d h o) (c + 1) os ≡ 0

pub first : (d : ℕ) (h : Holder) (c : ℕ) (o : Object) (os : List Object) → fault_from d h c (o ∷ os) ≡ 0 → First d h c o os
first d h c o os e = go (eqb v 0) refl
  where
    v : ℕ
    v = judged (placed d h o (length_of_first o os)) o.level c

    go : (x : Bool) → eqb v 0 ≡ x → First d h c o os
    go true i =
        let z : v ≡ 0 = eqb-true _ _ i in
        let j = judged_zero (placed d h o (length_of_first o os)) o.level c z in
        record { fits = j.fit; deep = j.deep; few = j.few; rest = sym (fault_good d h c o os z) ∙ e }
    go false i = absurd (eqb-false _ _ i (sym (fault_bad d h c o os (eqb-false _ _ i)) ∙ e))

pub record Place (d : ℕ) (h : Holder) (o : Object) (n : ℕ) : Type 0 where
  pub low : 1 ≤ o.level
  pub open_there : o.level ≤ d
  pub stood : stands (open_at d h o.level) o.tag ≡ true
  pub long : length_fits o.tag o.length ≡ true
  pub most : n ≤ largest

pub place : (d : ℕ) (h : Holder) (o : Object) (n : ℕ) → placed d h o n ≡ true → Place d h o n
unfolding placed
place d h o n e =
    let a = both e in
    let b = both a.1 in
    let c = both b.1 in
    let f = both c.1 in
    record { low = leb-true _ _ a.0; open_there = leb-true _ _ b.0; stood = c.0; long = f.0; most = leb-true _ _ f.1 }

pub fault_count : (d : ℕ) (h : Holder) (c : ℕ) (os : List Object) → fault_from d h c os ≡ 0 → c ≤ 32 → c + length os ≤ 32
fault_count d h c [] e l = omega arith
fault_count d h c (o ∷ os) e l =
    let f = first d h c o os e in
    let g = f.few in
    let r = fault_count (level_after o) (holder_after d h o) (c + 1) os f.rest (omega arith) in
    omega arith

pub fault_writable : (d : ℕ) (h : Holder) (c : ℕ) (os : List Object) → fault_from d h c os ≡ 0 → Writable os
fault_writable d h c [] e = none
fault_writable d h c (o ∷ os) e =
    let f = first d h c o os e in
    let p = place d h o (length_of_first o os) f.fits in
    more (record { holder = open_at d h o.level; stood = p.stood }) p.most p.low
    (fault_writable (level_after o) (holder_after d h o) (c + 1) os f.rest)

-- the number that the objects answer
module _ (b s : List ℕ) where
  pub check_size : (length b % 10 ≡ 0 → ⊥) → 1 ≡ check_number b s
  unfolding check_number
  check_size e = simp (ne_eqb _ _ e)

  module _ (a : Bool) (ea : a ≡ all_lie s (said b)) where
    pub check_lie : not a ≡ true → 1 ≡ check_number b s
    unfolding check_number
    check_lie h = go (eqb (length b % 10) 0) refl
      where
        go : (x : Bool) → eqb (length b % 10) 0 ≡ x → ◌≡◌ {A = ℕ} 1 (cond (eqb (length b % 10) 0 && all_lie s (said b)) (objects_fault (said b)) 1)
        go true e = simp (e, sym ea ∙ not-true a h)
        go false e = simp e

    module _ (z : length b % 10 ≡ 0) (h : not a ≡ false) where
      pub check_none : length b / 10 ≡ 0 → 16 ≡ check_number b s
      unfolding check_number objects_fault
      check_none e = simp (eq-eqb _ _ z, sym ea ∙ not-false a h, eq-eqb (length (said b)) 0 (length-said b ∙ e))

      pub check_last : (length b / 10 ≡ 0 → ⊥) → (r : ℕ) → r ≡ fault_from 1 Outer 0 (said b) → r ≡ check_number b s
      unfolding check_number objects_fault
      check_last e r f = simp (eq-eqb _ _ z, sym ea ∙ not-false a h, ne_eqb (length (said b)) 0 (λ i. e (sym (length-said b) ∙ i))) f

  pub record Accepted : Type 0 where
    pub few : length b / 10 ≤ 32
    pub can : Writable (said b)
    pub lie : all_lie s (said b) ≡ true
    pub good : objects_fault (said b) ≡ 0

  pub accepted : check_number b s ≡ 0 → Accepted
  unfolding check_number objects_fault
  accepted e = go (eqb (length b % 10) 0) refl (all_lie s (said b)) refl (eqb (length (said b)) 0) refl e
    where
      go : (x : Bool) → eqb (length b % 10) 0 ≡ x → (y : Bool) → all_lie s (said b) ≡ y → (z : Bool) → eqb (length (said b)) 0 ≡ z
          → ◌≡◌ {A = ℕ} (cond (x && y) (cond z 16 (fault_from 1 Outer 0 (said b))) 1) 0 → Accepted
      go true i true j false k w =
          let c = fault_count 1 Outer 0 (said b) w (omega arith) in
          let l = length-said b in
          record {
            few = omega arith;
            can = fault_writable 1 Outer 0 (said b) w;
            lie = j;
            good = ap (λ (q : Bool). cond q 16 (fault_from 1 Outer 0 (said b))) k ∙ w;
          }
      go true i true j true k w = absurd (omega arith)
      go true i false j z k w = absurd (omega arith)
      go false i y j z k w = absurd (omega arith)
