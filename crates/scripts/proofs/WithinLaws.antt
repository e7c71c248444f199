-- The bytes of the objects in an object, one object after the other; and what a table of the first objects alone says of them. Assumes nothing.
use mathlib.Core.Path.{◌≡◌, refl, sym, ap, ap₂, subst, ◌∙◌}
use mathlib.Core.Bool.{Bool, true, false, ◌&&◌, cond}
use mathlib.Core.List.{List, [], ◌∷◌}
use Prim.Native.Nat.{ℕ, zero, suc, min, ◌+◌, ◌-◌, ◌*◌, ◌/◌, ◌≤◌, ◌<◌}
use native.Mathlib.Omega.{arith}
use borrow.Author.Tests.{le-leb, lt-leb, leb-true, leb-false}
use lib.Dec.{leb}
use lib.ListN.{length, take, drop, get_or, set, length-set}
use lib.Seq.{drop-drop, get_or-set_same, get_or-set_other}
use Rattle.std.specs.List.{list_all, range_with_len}
use Rattle.shapes.specs.Length.{largest}
use Rattle.templates.specs.declared.Object.{Object}
use Rattle.templates.specs.Lent.{object_in, objects_in}
use Rattle.templates.specs.Reading.{is_data}
use Rattle.templates.proofs.HeadLaws.{head_small}
use Rattle.scripts.specs.Writing.{said, lies, all_lie, own_length, added_by, bytes_within, length_of_first}
use Rattle.scripts.specs.Inner.{at, from, Taken, Added, length_at, Within, firsts, Table}
use Rattle.scripts.proofs.FromLaws.{from_next, from_end, from_cut}

-- data that lie in the source, object by object
pub lie_at : (s b : List ℕ) (i : ℕ) (o : Object) (d : Bool) → Taken b i o → d ≡ lies s o → d ≡ lies s (at b i)
lie_at s b i o d t e = e ∙ ap (lies s) t.is

lie_from : (s b : List ℕ) (i k : ℕ) → list_all (λ j. lies s (at b j)) (range_with_len i k) ≡ all_lie s (objects_in k (drop (i * 10) b))
unfolding all_lie objects_in at
lie_from s b i zero = refl
lie_from s b i (suc k) =
    let f : i * 10 + 10 ≡ (i + 1) * 10 = omega arith in
    ap (λ (x : Bool). lies s (object_in (take 10 (drop (i * 10) b))) && x)
    (lie_from s b (i + 1) k ∙ ap (λ (x : List ℕ). all_lie s (objects_in k x)) (sym (drop-drop 10 (i * 10) b ∙ ap (λ (j : ℕ). drop j b) f)))

pub lie_all : (s b : List ℕ) → list_all (λ j. lies s (at b j)) (range_with_len 0 (length b / 10)) ≡ all_lie s (said b)
unfolding said
lie_all s b = lie_from s b 0 (length b / 10)

-- deeper objects
pub within_shut : (l : ℕ) (o : Object) (os : List Object) → o.level ≤ l → bytes_within l (o ∷ os) ≡ 0
unfolding bytes_within
within_shut l o os h = simp (le-leb _ _ h)

pub within_open : (l : ℕ) (o : Object) (os : List Object) → l < o.level → bytes_within l (o ∷ os) ≡ added_by o (length_of_first o os) + bytes_within l os
unfolding bytes_within length_of_first
within_open l o os h = simp (lt-leb _ _ h)

pub within_none : (l : ℕ) → bytes_within l [] ≡ 0
unfolding bytes_within
within_none l = refl

module _ (l n : ℕ) (b : List ℕ) (k : ℕ) where
  pub within_end : n ≤ k → bytes_within l (from n b k) ≡ 0
  within_end h = ap (bytes_within l) (from_end n b k h) ∙ within_none l

  module _ (h : k < n) (o : Object) (t : Taken b k o) where
    pub within_stop : o.level ≤ l → bytes_within l (from n b k) ≡ 0
    within_stop x =
        ap (bytes_within l) (from_next n b k h ∙ ap (λ (z : Object). z ∷ from n b (k + 1)) (sym t.is)) ∙ within_shut l o (from n b (k + 1)) x

    pub within_turn : l < o.level → (m r : ℕ) → m ≡ length_at n b k → Added o m r → bytes_within l (from n b k) ≡ r + bytes_within l (from n b (k + 1))
    unfolding length_at
    within_turn x m r e a =
        ap (bytes_within l) (from_next n b k h ∙ ap (λ (z : Object). z ∷ from n b (k + 1)) (sym t.is))
        ∙ within_open l o (from n b (k + 1)) x
        ∙ ap (λ (z : ℕ). added_by o z + bytes_within l (from n b (k + 1))) (ap (λ (z : Object). length_of_first z (from n b (k + 1))) t.is ∙ sym e)
        ∙ ap (λ (z : ℕ). z + bytes_within l (from n b (k + 1))) (sym a.is)

-- the table, filled from the last object to the first
pub within_start : (n : ℕ) (b t : List ℕ) → length t ≡ 192 → n ≤ 192 → n * 10 ≤ length b → Within n b n t
within_start n b t r f i = record { room = r; few = f; inside = i; start = omega arith; each = λ k x y. absurd (omega arith) }

module _ (n : ℕ) (b : List ℕ) (i : ℕ) (t : List ℕ) (w : Within n b (i + 1) t) (o : Object) (ta : Taken b i o) (m : ℕ)
    (e : m ≡ bytes_within o.level (from n b (i + 1))) (r : ℕ) (f : r ≡ own_length o m) where
  filled : r ≡ length_at n b i
  unfolding length_at length_of_first
  filled = f ∙ ap (own_length o) e ∙ ap (λ (z : Object). own_length z (bytes_within z.level (from n b (i + 1)))) ta.is

  pub within_filled : Within n b i (set t i r)
  within_filled =
      let s = w.start in
      let rm = w.room in
      let fw = w.few in
      record {
        room = length-set t i r ∙ rm;
        few = fw;
        inside = w.inside;
        start = omega arith;
        each = λ k x y. go k x y (leb k i) refl;
      }
    where
      go : (k : ℕ) → i ≤ k → k < n → (c : Bool) → leb k i ≡ c → get_or (set t i r) k 0 ≡ length_at n b k
      go k x y true c =
          let s = w.start in
          let rm = w.room in
          let fw = w.few in
          let z : k ≡ i = let u : k ≤ i = leb-true _ _ c in omega arith in
          ap (λ (j : ℕ). get_or (set t i r) j 0) z ∙ get_or-set_same t i r 0 (omega arith) ∙ filled ∙ ap (length_at n b) (sym z)
      go k x y false c =
          let u : i < k = leb-false _ _ c in
          get_or-set_other t i k r 0 (λ z. omega (arith, z)) ∙ w.each k (omega arith) y

-- from i on, where it is said of the one before i and of those after it
pub within_same : (n : ℕ) (b : List ℕ) (i : ℕ) (t : List ℕ) → 0 < i → Within n b i t → Within n b (i - 1 + 1) t
within_same n b i t h w = let j : i ≡ i - 1 + 1 = omega arith in subst (λ (k : ℕ). Within n b k t) j w

-- an object takes two bytes or more
added_two : (o : Object) (n : ℕ) → 2 ≤ added_by o n
unfolding added_by
added_two o n = let a = (head_small o.tag n).least in omega arith

-- fewer are deeper than a deeper level
lower : (l m : ℕ) (os : List Object) → l ≤ m → bytes_within m os ≤ bytes_within l os
lower l m [] h = let a = within_none l in let b = within_none m in omega arith
lower l m (o ∷ os) h = go (lower l m os h) (leb o.level l) refl (leb o.level m) refl
  where
    go : bytes_within m os ≤ bytes_within l os → (x : Bool) → leb o.level l ≡ x → (y : Bool) → leb o.level m ≡ y
        → bytes_within m (o ∷ os) ≤ bytes_within l (o ∷ os)
    go i x e true f = let a = within_shut m o os (leb-true _ _ f) in omega arith
    go i true e false f = let a : o.level ≤ l = leb-true _ _ e in let b : m < o.level = leb-false _ _ f in absurd (omega arith)
    go i false e false f =
        let a = within_open l o os (leb-false _ _ e) in
        let b = within_open m o os (leb-false _ _ f) in
        omega arith

same_added : (o : Object) (l : ℕ) (ps os : List Object) → bytes_within l ps ≡ bytes_within l os → bytes_within o.level ps ≡ bytes_within o.level os
    → added_by o (length_of_first o ps) + bytes_within l ps ≡ added_by o (length_of_first o os) + bytes_within l os
unfolding length_of_first
same_added o l ps os f g = ap₂ (λ (i j : ℕ). added_by o (own_length o i) + j) g f

-- bytes among the first w objects, and among all: the same, or both of w objects or more
data Cut (w x y : ℕ) : Type 0 where
  same : x ≡ y → Cut w x y
  large : 2 * w ≤ x → 2 * w ≤ y → Cut w x y

cut : (w l : ℕ) (os : List Object) → Cut w (bytes_within l (take w os)) (bytes_within l os)
cut zero l os = large (omega arith) (omega arith)
cut (suc w) l [] = same refl
cut (suc w) l (o ∷ os) = go (leb o.level l) refl (cut w l os) (cut w o.level os)
  where
    ps : List Object
    ps = take w os

    go : (x : Bool) → leb o.level l ≡ x → Cut w (bytes_within l ps) (bytes_within l os) → Cut w (bytes_within o.level ps) (bytes_within o.level os)
        → Cut (suc w) (bytes_within l (o ∷ ps)) (bytes_within l (o ∷ os))
    go true e c d = same (within_shut l o ps (leb-true _ _ e) ∙ sym (within_shut l o os (leb-true _ _ e)))
    go false e (large x y) d =
        let a = within_open l o ps (leb-false _ _ e) in
        let b = within_open l o os (leb-false _ _ e) in
        let p = added_two o (length_of_first o ps) in
        let q = added_two o (length_of_first o os) in
        large (omega arith) (omega arith)
    go false e (same x) (large y z) =
        let a = within_open l o ps (leb-false _ _ e) in
        let b = within_open l o os (leb-false _ _ e) in
        let p = added_two o (length_of_first o ps) in
        let q = added_two o (length_of_first o os) in
        let u = lower l o.level ps (deep e) in
        let v = lower l o.level os (deep e) in
        large (omega arith) (omega arith)
      where
        deep : leb o.level l ≡ false → l ≤ o.level
        deep f = let g : l < o.level = leb-false _ _ f in omega arith
    go false e (same x) (same y) =
        same (within_open l o ps (leb-false _ _ e) ∙ same_added o l ps os x y ∙ sym (within_open l o os (leb-false _ _ e)))

-- what the table says is the length, or both are longer than any that may stand
pub data Agree (x y : ℕ) : Type 0 where
  same : x ≡ y → Agree x y
  longer : largest < x → largest < y → Agree x y

own_agree : (o : Object) (x y : ℕ) → Agree x y → Agree (own_length o x) (own_length o y)
unfolding own_length
own_agree o x y (same e) = same (ap (own_length o) e)
own_agree o x y (longer p q) = go (is_data o.tag) refl
  where
    go : (d : Bool) → is_data o.tag ≡ d → Agree (cond (is_data o.tag) o.length x) (cond (is_data o.tag) o.length y)
    go true e = same (ap (λ (z : Bool). cond z o.length x) e ∙ sym (ap (λ (z : Bool). cond z o.length y) e))
    go false e =
        longer (subst (λ (z : ℕ). largest < z) (sym (ap (λ (z : Bool). cond z o.length x) e)) p)
        (subst (λ (z : ℕ). largest < z) (sym (ap (λ (z : Bool). cond z o.length y) e)) q)

cut_agree : (w l : ℕ) (os : List Object) → 128 ≤ w → Agree (bytes_within l (take w os)) (bytes_within l os)
unfolding largest
cut_agree w l os h = go (cut w l os)
  where
    go : Cut w (bytes_within l (take w os)) (bytes_within l os) → Agree (bytes_within l (take w os)) (bytes_within l os)
    go (same e) = same e
    go (large x y) = longer (omega arith) (omega arith)

pub all_measured : (n : ℕ) → n ≤ 192 → firsts n ≡ n
unfolding firsts
all_measured n h = simp (le-leb _ _ h)

pub most_measured : (n : ℕ) → 192 < n → firsts n ≡ 192
unfolding firsts
most_measured n h = simp (lt-leb _ _ h)

pub firsts_min : (n : ℕ) → min n 192 ≡ firsts n
firsts_min n = go (leb n 192) refl
  where
    go : (x : Bool) → leb n 192 ≡ x → min n 192 ≡ firsts n
    go true e = let h : n ≤ 192 = leb-true _ _ e in omega (arith, all_measured n h)
    go false e = let h : 192 < n = leb-false _ _ e in omega (arith, most_measured n h)

pub length_agree : (n : ℕ) (b : List ℕ) (i : ℕ) → i ≤ 32 → Agree (length_at (firsts n) b i) (length_at n b i)
unfolding length_at length_of_first
length_agree n b i h = go (leb n 192) refl
  where
    go : (x : Bool) → leb n 192 ≡ x → Agree (length_at (firsts n) b i) (length_at n b i)
    go true e = same (ap (λ (w : ℕ). length_at w b i) (all_measured n (leb-true _ _ e)))
    go false e =
        let g : 192 < n = leb-false _ _ e in
        own_agree (at b i) _ _
        (subst (λ (os : List Object). Agree (bytes_within (at b i).level os) (bytes_within (at b i).level (from n b (i + 1))))
        (sym (ap (λ (w : ℕ). from w b (i + 1)) (most_measured n g) ∙ from_cut 192 n b (i + 1) (omega arith)))
        (cut_agree (192 - (i + 1)) (at b i).level (from n b (i + 1)) (omega arith)))

-- as many as are measured are there
pub record Bounds (n : ℕ) (b : List ℕ) : Type 0 where
  pub few : n ≤ 192
  pub inside : n * 10 ≤ length b

pub bounds : (b : List ℕ) (n : ℕ) → n ≡ firsts (length b / 10) → Bounds n b
bounds b n e = go (leb (length b / 10) 192) refl
  where
    go : (x : Bool) → leb (length b / 10) 192 ≡ x → Bounds n b
    go true f =
        let g : length b / 10 ≤ 192 = leb-true _ _ f in
        let i = all_measured (length b / 10) g in
        record { few = omega arith; inside = omega arith }
    go false f =
        let g : 192 < length b / 10 = leb-false _ _ f in
        let i = most_measured (length b / 10) g in
        record { few = omega arith; inside = omega arith }

pub table_done : (b : List ℕ) (n i : ℕ) (t : List ℕ) → n ≡ firsts (length b / 10) → i ≡ 0 → Within n b i t → Table b t
unfolding Table
table_done b n i t e z w = subst (λ (k : ℕ). Within k b 0 t) e (subst (λ (k : ℕ). Within n b k t) z w)
