-- Reading, step by step: the steps that it is given do not matter where there are as many as bytes, and each object goes on to the next. Assumes nothing.
use mathlib.Core.Path.{◌≡◌, refl, sym, ap, ap₂, subst, ◌∙◌}
use mathlib.Core.Bool.{Bool, true, false, not, cond, true≢false}
use mathlib.Core.List.{List, [], ◌∷◌}
use Prim.Native.Nat.{ℕ, zero, suc, ◌+◌, ◌-◌, ◌*◌, ◌^◌, ◌≤◌, ◌<◌}
use native.Mathlib.Nat.{not-suc-le-zero, le_refl}
use native.Mathlib.Omega.{arith}
use borrow.Author.Tests.{eq-eqb, ne_eqb, leb-true, le-leb, ltb-true, lt-ltb, not-true, not-false}
use lib.Dec.{leb, ltb}
use lib.ListN.{length, take, drop, length-drop, length-take}
use lib.Seq.{take_all, length-take-le}
use Rattle.std.specs.Prelude.{Option, Some, None, Result, Ok, Err}
use Rattle.std.specs.Option.{is_some}
use Rattle.answers.specs.declared.Refusal.{Refusal}
use Rattle.answers.specs.declared.Refusal.TheVariants.{BadObject, TooDeep, TooMany}
use Rattle.templates.specs.declared.Fault.{Fault}
use Rattle.shapes.specs.Length.{largest}
use Rattle.templates.specs.declared.Holder.{Holder}
use Rattle.templates.specs.declared.Holder.TheVariants.{Outer}
use Rattle.templates.specs.declared.Head.{Head}
use Rattle.templates.specs.declared.Object.{Object}
use Rattle.templates.specs.declared.Read.{Read}
use Rattle.templates.specs.Grammar.{head_size, object_at}
use Rattle.templates.specs.Reading.{stands, after, is_template, within, head_for, head_of, length_fits, good, verdict, begun, kept, stopped, Reader, entered, object_read, onward, read_for, read_all, reading}
use Rattle.templates.proofs.HeadLaws.{both, head_small}

-- the head of any bytes takes two to four of them
pub head_of_small : (xs : List ℕ) → (2 ≤ (head_of xs).size) × ((head_of xs).size ≤ 4)
unfolding head_of head_for
head_of_small xs = let s = head_small _ _ in (s.least, s.most)

-- two readers that agree on no more than k bytes
abbrev Agree : ℕ → Reader → Reader → Type 0
Agree k f g = (h : Holder) (l p : ℕ) (xs : List ℕ) (r : Read) → length xs ≤ k → f h l p xs r ≡ g h l p xs r

shorter : (n s k : ℕ) (xs : List ℕ) → length xs ≤ suc k → 1 ≤ s → length (take n (drop s xs)) ≤ k
shorter n s k xs h l = let a = length-take n (drop s xs) in let b = length-drop s xs in omega arith

entered_agrees : (f g : Reader) (e : Head) (l p : ℕ) (xs : List ℕ) (r : Read)
    → f (within e.tag) (l + 1) (p + e.size) (take e.length (drop e.size xs)) (kept (object_at e.tag l p e.length) r)
    ≡ g (within e.tag) (l + 1) (p + e.size) (take e.length (drop e.size xs)) (kept (object_at e.tag l p e.length) r)
    → (v : Result (Unit {0}) Refusal) → entered f e v l p xs r ≡ entered g e v l p xs r
unfolding entered
entered_agrees f g e l p xs r i (Ok u) = ap (λ (z : Read). cond (is_template e.tag) z (kept (object_at e.tag l p e.length) r)) i
entered_agrees f g e l p xs r i (Err q) = refl

object_agrees : (k : ℕ) (f g : Reader) → Agree k f g
    → (h : Holder) (l p : ℕ) (xs : List ℕ) (r : Read) → length xs ≤ suc k → object_read f h l p xs r ≡ object_read g h l p xs r
unfolding object_read
object_agrees k f g a h l p xs r n =
    let e = head_of xs in
    let o = kept (object_at e.tag l p e.length) r in
    entered_agrees f g e l p xs r
    (a (within e.tag) (l + 1) (p + e.size) (take e.length (drop e.size xs)) o
    (shorter e.length e.size k xs n (let s = (head_of_small xs).0 in omega arith)))
    (verdict (good h e (length xs)) l r.count)

onward_agrees : (k : ℕ) (f g : Reader) → Agree k f g
    → (h : Holder) (l p : ℕ) (xs : List ℕ) (r : Read) → length xs ≤ suc k → onward f (head_of xs) h l p xs r ≡ onward g (head_of xs) h l p xs r
unfolding onward
onward_agrees k f g a h l p xs r n =
    let e = head_of xs in
    ap (λ (z : Read). cond (is_some r.fault) r z)
    (a (after h) l (p + (e.size + e.length)) (drop (e.size + e.length) xs) r
    (let d = length-drop (e.size + e.length) xs in let s = (head_of_small xs).0 in omega arith))

-- steps enough are as good as more
steps : (k j : ℕ) (h : Holder) (l p : ℕ) (xs : List ℕ) (r : Read) → length xs ≤ k → length xs ≤ j → read_for k h l p xs r ≡ read_for j h l p xs r
unfolding read_for
steps zero zero h l p xs r m n = refl
steps zero (suc j) h l p [] r m n = refl
steps zero (suc j) h l p (x ∷ xs) r m n = absurd (not-suc-le-zero m)
steps (suc k) zero h l p [] r m n = refl
steps (suc k) zero h l p (x ∷ xs) r m n = absurd (not-suc-le-zero n)
steps (suc k) (suc j) h l p [] r m n = refl
steps (suc k) (suc j) h l p (x ∷ xs) r m n =
    let i = length xs in
    let a : Agree i (read_for k) (read_for j) = λ h' l' p' ys q y. steps k j h' l' p' ys q (omega arith) (omega arith) in
    onward_agrees i (read_for k) (read_for j) a h l p (x ∷ xs) (object_read (read_for k) h l p (x ∷ xs) r) (le_refl (suc i))
    ∙ ap (onward (read_for j) (head_of (x ∷ xs)) h l p (x ∷ xs)) (object_agrees i (read_for k) (read_for j) a h l p (x ∷ xs) r (le_refl (suc i)))

pub enough : (k : ℕ) (h : Holder) (l p : ℕ) (xs : List ℕ) (r : Read) → length xs ≤ k → read_for k h l p xs r ≡ read_all h l p xs r
unfolding read_all
enough k h l p xs r n = steps k (length xs) h l p xs r n (le_refl (length xs))

-- no bytes, no object
pub read_none : (h : Holder) (l p : ℕ) (xs : List ℕ) (r : Read) → length xs ≡ 0 → r ≡ read_all h l p xs r
unfolding read_all read_for
read_none h l p xs r e = sym (ap (λ (k : ℕ). read_for k h l p xs r) e)

-- an object, and the others
pub read_step : (h : Holder) (l p : ℕ) (xs : List ℕ) (r : Read) → (length xs ≡ 0 → ⊥)
    → read_all h l p xs r ≡ onward read_all (head_of xs) h l p xs (object_read read_all h l p xs r)
unfolding read_all read_for
read_step h l p [] r n = absurd (n refl)
read_step h l p (x ∷ xs) r n =
    let i = length xs in
    let a : Agree i (read_for i) read_all = λ h' l' p' ys q y. enough i h' l' p' ys q y in
    onward_agrees i (read_for i) read_all a h l p (x ∷ xs) (object_read (read_for i) h l p (x ∷ xs) r) (le_refl (suc i))
    ∙ ap (onward read_all (head_of (x ∷ xs)) h l p (x ∷ xs)) (object_agrees i (read_for i) read_all a h l p (x ∷ xs) r (le_refl (suc i)))

-- what an object that is accepted is
pub record Judged (h : Holder) (e : Head) (n l c : ℕ) : Type 0 where
  pub stood : stands h e.tag ≡ true
  pub most : e.length ≤ largest
  pub room : e.size + e.length ≤ n
  pub long : length_fits e.tag e.length ≡ true
  pub deep : l ≤ 4
  pub few : c < 32

refused : (q : Refusal) → ◌≡◌ {A = Result (Unit {0}) Refusal} (Err q) (Ok tt) → ⊥
refused q w = let z : ◌≡◌ {A = ℕ} 0 1 = cc in omega arith

pub judged_good : (b : Bool) (l c : ℕ) → verdict b l c ≡ Ok tt → (b ≡ true) × ((l ≤ 4) × (c < 32))
unfolding verdict
judged_good b l c e = go b (leb l 4) refl (ltb c 32) refl e
  where
    go : (x y : Bool) → leb l 4 ≡ y → (z : Bool) → ltb c 32 ≡ z
        → ◌≡◌ {A = Result (Unit {0}) Refusal} (cond x (cond y (cond z (Ok (tt {0})) (Err TooMany)) (Err TooDeep)) (Err BadObject)) (Ok (tt {0})) → (x ≡ true) × ((l ≤ 4) × (c < 32))
    go true true d true f w = (refl, (leb-true _ _ d, ltb-true _ _ f))
    go true true d false f w = absurd (refused _ w)
    go true false d z f w = absurd (refused _ w)
    go false y d z f w = absurd (refused _ w)

pub good_judged : (b : Bool) (l c : ℕ) → b ≡ true → l ≤ 4 → c < 32 → verdict b l c ≡ Ok tt
unfolding verdict
good_judged b l c e d f = simp (e, le-leb _ _ d, lt-ltb _ _ f)

pub judged_parts : (h : Holder) (e : Head) (n l c : ℕ) → verdict (good h e n) l c ≡ Ok tt → Judged h e n l c
unfolding good
judged_parts h e n l c w =
    let j = judged_good (good h e n) l c w in
    let a = both j.0 in
    let b = both a.1 in
    let d = both b.1 in
    record { stood = a.0; most = leb-true _ _ b.0; room = leb-true _ _ d.0; long = d.1; deep = j.1.0; few = j.1.1 }

pub parts_good : (h : Holder) (e : Head) (n : ℕ) → stands h e.tag ≡ true → e.length ≤ largest → e.size + e.length ≤ n
    → length_fits e.tag e.length ≡ true → good h e n ≡ true
unfolding good
parts_good h e n a b c d = simp (a, le-leb _ _ b, le-leb _ _ c, d)

-- an object that is at fault stops the reading, and one that is not has room
pub entered_stops : (f : Reader) (e : Head) (v : Result (Unit {0}) Refusal) (q : Refusal) (l p : ℕ) (xs : List ℕ) (r : Read) → v ≡ Err q
    → entered f e v l p xs r ≡ stopped q p r
unfolding entered
entered_stops f e v q l p xs r w = ap (λ (k : Result (Unit {0}) Refusal). entered f e k l p xs r) w

entered_kept : (f : Reader) (e : Head) (v : Result (Unit {0}) Refusal) (l p : ℕ) (xs : List ℕ) (r : Read) → v ≡ Ok tt → is_template e.tag ≡ false
    → entered f e v l p xs r ≡ kept (object_at e.tag l p e.length) r
unfolding entered
entered_kept f e v l p xs r w t = ap (λ (k : Result (Unit {0}) Refusal). entered f e k l p xs r) w ∙ simp t

entered_inner : (f : Reader) (e : Head) (v : Result (Unit {0}) Refusal) (l p : ℕ) (xs : List ℕ) (r : Read) → v ≡ Ok tt → is_template e.tag ≡ true
    → entered f e v l p xs r
    ≡ f (within e.tag) (l + 1) (p + e.size) (take e.length (drop e.size xs)) (kept (object_at e.tag l p e.length) r)
unfolding entered
entered_inner f e v l p xs r w t = ap (λ (k : Result (Unit {0}) Refusal). entered f e k l p xs r) w ∙ simp t

-- nothing is at fault, or something is
pub nothing_wrong : (f : Option Fault) → is_some f ≡ false → f ≡ None
nothing_wrong None e = refl
nothing_wrong (Some x) e = absurd (true≢false e)

-- the others are read unless it stopped
onward_stops : (f : Reader) (e : Head) (h : Holder) (l p : ℕ) (xs : List ℕ) (r : Read) → is_some r.fault ≡ true → onward f e h l p xs r ≡ r
unfolding onward
onward_stops f e h l p xs r w = simp w

onward_goes : (f : Reader) (e : Head) (h : Holder) (l p : ℕ) (xs : List ℕ) (r : Read) → is_some r.fault ≡ false
    → onward f e h l p xs r ≡ f (after h) l (p + (e.size + e.length)) (drop (e.size + e.length) xs) r
unfolding onward
onward_goes f e h l p xs r w = simp w

pub read_fault : (f : Reader) (h : Holder) (l p : ℕ) (xs : List ℕ) (r : Read)
    → (object_read f h l p xs r).fault ≡ None → verdict (good h (head_of xs) (length xs)) l r.count ≡ Ok tt
unfolding object_read stopped
read_fault f h l p xs r e = go j refl
  where
    j : Result (Unit {0}) Refusal
    j = verdict (good h (head_of xs) (length xs)) l r.count

    go : (v : Result (Unit {0}) Refusal) → j ≡ v → j ≡ Ok tt
    go (Ok u) w = w
    go (Err q) w =
        let y : ◌≡◌ {A = Option Fault} (Some (record { at = p; why = q })) None
        = sym (ap (λ (x : Read). x.fault) (entered_stops f (head_of xs) j q l p xs r w)) ∙ e in
        let z : ◌≡◌ {A = ℕ} 0 1 = cc in
        absurd (omega arith)

-- the object's reader: e, b and v are what the code finds of it
module _ (h : Holder) (l p : ℕ) (xs : List ℕ) (r : Read) (e : Head) (b : Bool) (k : Result (Unit {0}) Refusal) (i : e ≡ head_of xs) (j : b ≡ good h e (length xs))
    (m : k ≡ verdict b l r.count) where
  found : (f : Reader) → entered f e k l p xs r ≡ object_read f h l p xs r
  unfolding object_read
  found f =
      let g : b ≡ good h (head_of xs) (length xs) = j ∙ ap (λ (z : Head). good h z (length xs)) i in
      ap₂ (λ (z : Head) (v : Result (Unit {0}) Refusal). entered f z v l p xs r) i (m ∙ ap (λ (z : Bool). verdict z l r.count) g)

  pub object_stopped : (w : Refusal) → k ≡ Err w → (q : Read) → q ≡ stopped w p r → q ≡ object_read read_all h l p xs r
  object_stopped w n q y = y ∙ sym (entered_stops read_all e k w l p xs r n) ∙ found read_all

  module _ (z : k ≡ Ok tt) where
    object_judged : Judged h e (length xs) l r.count
    object_judged = judged_parts h e (length xs) l r.count (ap (λ (y : Bool). verdict y l r.count) (sym j) ∙ sym m ∙ z)

    pub object_room : e.size + e.length ≤ length xs
    object_room = object_judged.room

    pub object_deeper : l + 1 < 2 ^ 64
    object_deeper = let a = object_judged.deep in omega arith

    pub object_few : r.count < 32
    object_few = object_judged.few

    pub object_data : p + length xs < 2 ^ 64 → p + e.size < 2 ^ 64
    object_data w = let a = object_room in omega arith

    pub object_end : e.size + e.length < 2 ^ 64
    unfolding largest
    object_end =
        let a = object_judged.most in
        let s = (head_of_small xs).1 in
        let v : e.size ≤ 4 = subst (λ (y : Head). y.size ≤ 4) (sym i) s in
        omega arith

    abbrev pub inside : List ℕ
    inside = take (e.size + e.length - e.size) (drop e.size xs)

    length-inside : length inside ≡ e.length
    length-inside =
        let c : e.size + e.length - e.size ≡ e.length = omega arith in
        let a = object_room in
        ap (λ (d : ℕ). length (take d (drop e.size xs))) c ∙ length-take-le e.length (drop e.size xs) (let d = length-drop e.size xs in omega arith)

    pub object_falls : (s : ℕ) → 2 * length xs ≡ s → 2 * length inside + 1 < s
    object_falls s c =
        let a = object_room in
        let f = length-inside in
        let v : 2 ≤ e.size = subst (λ (y : Head). 2 ≤ y.size) (sym i) (head_of_small xs).0 in
        omega arith

    pub object_inside : p + length xs < 2 ^ 64 → p + e.size + length inside < 2 ^ 64
    object_inside d = let a = object_room in let f = length-inside in omega arith

    kept_is : (n : ℕ) → n ≡ p + e.size → record { tag = e.tag; level = l; place = n; length = e.length } ≡ object_at e.tag l p e.length
    unfolding object_at head_of head_for
    kept_is n w =
        let v : e.size ≡ head_size e.tag e.length = subst (λ (y : Head). y.size ≡ head_size y.tag y.length) (sym i) refl in
        ap (λ (y : ℕ). record { tag = e.tag; level = l; place = y; length = e.length }) (w ∙ ap (λ (y : ℕ). p + y) v)

    pub object_kept : (t : Bool) → t ≡ is_template e.tag → not t ≡ true → (q : Read)
        → q ≡ kept (record { tag = e.tag; level = l; place = p + e.size; length = e.length }) r → q ≡ object_read read_all h l p xs r
    object_kept t u n q w =
        w ∙ ap (λ (y : Object). kept y r) (kept_is (p + e.size) refl)
        ∙ sym (entered_kept read_all e k l p xs r z (sym u ∙ not-true t n)) ∙ found read_all

    module _ (t : Bool) (u : t ≡ is_template e.tag) (n : not t ≡ false) (o : Read)
        (w : o ≡ kept (record { tag = e.tag; level = l; place = p + e.size; length = e.length }) r) where
      pub object_inner : (g : Holder) → g ≡ within e.tag → (q : Read) → q ≡ read_all g (l + 1) (p + e.size) inside o → q ≡ object_read read_all h l p xs r
      object_inner g v q y =
          let c : e.size + e.length - e.size ≡ e.length = omega arith in
          y
          ∙ ap₂ (λ (x : Holder) (d : ℕ). read_all x (l + 1) (p + e.size) (take d (drop e.size xs)) o) v c
          ∙ ap (λ (x : Read). read_all (within e.tag) (l + 1) (p + e.size) (take e.length (drop e.size xs)) x) (w ∙ ap (λ (x : Object). kept x r) (kept_is (p + e.size) refl))
          ∙ sym (entered_inner read_all e k l p xs r z (sym u ∙ not-false t n)) ∙ found read_all

-- the template's reader
module _ (h : Holder) (l p : ℕ) (xs : List ℕ) (r : Read) (n : length xs ≡ 0 → ⊥) (q : Read) (w : q ≡ object_read read_all h l p xs r) where
  stepped : read_all h l p xs r ≡ onward read_all (head_of xs) h l p xs q
  stepped = read_step h l p xs r n ∙ ap (λ (y : Read). onward read_all (head_of xs) h l p xs y) (sym w)

  pub template_stopped : (t : Bool) → t ≡ is_some q.fault → t ≡ true → q ≡ read_all h l p xs r
  template_stopped t u z = sym (stepped ∙ onward_stops read_all (head_of xs) h l p xs q (sym u ∙ z))

  module _ (t : Bool) (u : t ≡ is_some q.fault) (z : t ≡ false) (e : Head) (i : e ≡ head_of xs) where
    template_judged : Judged h (head_of xs) (length xs) l r.count
    template_judged = judged_parts h (head_of xs) (length xs) l r.count (read_fault read_all h l p xs r (ap (λ (y : Read). y.fault) (sym w) ∙ nothing_wrong q.fault (sym u ∙ z)))

    pub template_room : e.size + e.length ≤ length xs
    template_room = subst (λ (y : Head). y.size + y.length ≤ length xs) (sym i) template_judged.room

    pub template_size : e.size + e.length < 2 ^ 64
    unfolding largest
    template_size =
        let a = subst (λ (y : Head). y.length ≤ 255) (sym i) template_judged.most in
        let v : e.size ≤ 4 = subst (λ (y : Head). y.size ≤ 4) (sym i) (head_of_small xs).1 in
        omega arith

    pub template_place : p + length xs < 2 ^ 64 → p + (e.size + e.length) < 2 ^ 64
    template_place d = let a = template_room in omega arith

    abbrev pub left : List ℕ
    left = take (length xs - (e.size + e.length)) (drop (e.size + e.length) xs)

    left_is : left ≡ drop (e.size + e.length) xs
    left_is = take_all (length xs - (e.size + e.length)) (drop (e.size + e.length) xs) (let d = length-drop (e.size + e.length) xs in omega arith)

    length_left : length left ≡ length xs - (e.size + e.length)
    length_left = ap length left_is ∙ length-drop (e.size + e.length) xs

    pub template_falls : (s : ℕ) → 2 * length xs + 1 ≡ s → 2 * length left + 1 < s
    template_falls s c =
        let a = template_room in
        let f = length_left in
        let v : 2 ≤ e.size = subst (λ (y : Head). 2 ≤ y.size) (sym i) (head_of_small xs).0 in
        omega arith

    pub template_left : p + length xs < 2 ^ 64 → p + (e.size + e.length) + length left < 2 ^ 64
    template_left d = let a = template_room in let f = length_left in omega arith

    pub template_onward : (g : Holder) → g ≡ after h → (o : Read) → o ≡ read_all g l (p + (e.size + e.length)) left q → o ≡ read_all h l p xs r
    template_onward g v o y =
        y
        ∙ ap₂ (λ (x : Holder) (d : List ℕ). read_all x l (p + (e.size + e.length)) d q) v left_is
        ∙ ap (λ (x : Head). read_all (after h) l (p + (x.size + x.length)) (drop (x.size + x.length) xs) q) i
        ∙ sym (stepped ∙ onward_goes read_all (head_of xs) h l p xs q (sym u ∙ z))

pub head_small_enough : (xs : List ℕ) (e : Head) → e ≡ head_of xs → e.size ≤ 4
head_small_enough xs e i = subst (λ (y : Head). y.size ≤ 4) (sym i) (head_of_small xs).1

-- the whole
pub reading_none : (xs : List ℕ) (b q : Read) → b ≡ begun → length xs ≡ 0 → q ≡ stopped BadObject 0 b → q ≡ reading xs
unfolding reading
reading_none xs b q e n w = simp (eq-eqb (length xs) 0 n) (w ∙ ap (stopped BadObject 0) e)

pub reading_some : (xs : List ℕ) (b q : Read) → b ≡ begun → (length xs ≡ 0 → ⊥) → q ≡ read_all Outer 1 0 xs b → q ≡ reading xs
unfolding reading
reading_some xs b q e n w = simp (ne_eqb (length xs) 0 n) (w ∙ ap (read_all Outer 1 0 xs) e)
