-- Objects from bytes, one after the other. Assumes nothing.
use mathlib.Core.Path.{◌≡◌, refl, sym, ap, ap₂, ◌∙◌}
use mathlib.Core.List.{List, [], ◌∷◌}
use Prim.Native.Nat.{ℕ, zero, suc, ◌+◌, ◌-◌, ◌*◌, ◌/◌, ◌≤◌, ◌<◌}
use native.Mathlib.Nat.{add-zero, not-suc-le-zero, le_of_suc-le-suc}
use native.Mathlib.Omega.{arith}
use lib.ListN.{length, take, drop, get_or}
use lib.Seq.{drop-drop, take-take}
use Rattle.octets.specs.Numbers.{be, le}
use Rattle.octets.proofs.Parts.{elements_part, part_part}
use Rattle.templates.specs.declared.Object.{Object}
use Rattle.templates.specs.Lent.{object_in, objects_in}
use Rattle.scripts.specs.Writing.{said}
use Rattle.scripts.specs.Inner.{Pair, at, from, Taken}

pub pair_is : (b : List ℕ) (p r : ℕ) → p + 2 ≤ length b → get_or b p 0 < 256 → get_or b (p + 1) 0 < 256 → r ≡ be (get_or b p 0 ∷ get_or b (p + 1) 0 ∷ []) → Pair b p r
unfolding be le
pair_is b p r h x y e =
    let z : get_or b (p + 0) 0 ≡ get_or b p 0 = ap (λ (k : ℕ). get_or b k 0) (add-zero p) in
    record {
      is = e ∙ ap (λ (k : ℕ). be (k ∷ get_or b (p + 1) 0 ∷ [])) (sym z) ∙ ap be (sym (elements_part b p 2 h));
      small = omega arith;
    }

four : (b : List ℕ) (p : ℕ) → p + 4 ≤ length b → be (take 2 (drop p b)) * 65536 + be (take 2 (drop (p + 2) b)) ≡ be (take 4 (drop p b))
unfolding be le
four b p h =
    let q : get_or b (p + 2 + 0) 0 ≡ get_or b (p + 2) 0 = ap (λ (k : ℕ). get_or b k 0) (add-zero (p + 2)) in
    let r : get_or b (p + 2 + 1) 0 ≡ get_or b (p + 3) 0 = ap (λ (k : ℕ). get_or b k 0) (omega arith) in
    ap₂ (λ (x y : List ℕ). be x * 65536 + be y) (elements_part b p 2 (omega arith)) (elements_part b (p + 2) 2 (omega arith))
    ∙ omega arith
    ∙ ap be (sym (elements_part b p 4 h))

pub same_object : {t l n p t' l' n' p' : ℕ} → t ≡ t' → l ≡ l' → n ≡ n' → p ≡ p'
    → ◌≡◌ {A = Object} (record { tag = t; level = l; length = n; place = p }) (record { tag = t'; level = l'; length = n'; place = p' })
same_object e f g h = cc

module _ (b : List ℕ) (i : ℕ) (h : i * 10 + 10 ≤ length b) (t l n u v : ℕ)
    (et : Pair b (i * 10) t) (el : Pair b (i * 10 + 2) l) (en : Pair b (i * 10 + 4) n) (eu : Pair b (i * 10 + 6) u) (ev : Pair b (i * 10 + 8) v) where
  pub taken : Taken b i (record { tag = t; level = l; place = u * 65536 + v; length = n })
  unfolding at object_in
  taken =
      let w : i * 10 + 6 + 2 ≡ i * 10 + 8 = omega arith in
      record {
        is =
            same_object
            (et.is ∙ ap be (sym (take-take 2 10 (drop (i * 10) b) (omega arith))))
            (el.is ∙ ap be (sym (part_part b (i * 10) 10 2 2 h (omega arith))))
            (en.is ∙ ap be (sym (part_part b (i * 10) 10 4 2 h (omega arith))))
            (ap₂ (λ (x y : ℕ). x * 65536 + y) eu.is (ev.is ∙ ap (λ (k : ℕ). be (take 2 (drop k b))) (sym w))
            ∙ four b (i * 10 + 6) (omega arith)
            ∙ ap be (sym (part_part b (i * 10) 10 6 4 h (omega arith))));
        low = el.small;
        short = en.small;
      }

-- the first n objects from i on
pub from_next : (n : ℕ) (b : List ℕ) (i : ℕ) → i < n → from n b i ≡ at b i ∷ from n b (i + 1)
unfolding from at objects_in
from_next n b i h =
    let e : n - i ≡ suc (n - (i + 1)) = omega arith in
    let f : i * 10 + 10 ≡ (i + 1) * 10 = omega arith in
    ap (λ (k : ℕ). objects_in k (drop (i * 10) b)) e
    ∙ ap (λ (x : List ℕ). object_in (take 10 (drop (i * 10) b)) ∷ objects_in (n - (i + 1)) x) (drop-drop 10 (i * 10) b ∙ ap (λ (k : ℕ). drop k b) f)

pub from_end : (n : ℕ) (b : List ℕ) (i : ℕ) → n ≤ i → from n b i ≡ []
unfolding from objects_in
from_end n b i h = let e : n - i ≡ 0 = omega arith in ap (λ (k : ℕ). objects_in k (drop (i * 10) b)) e

pub said_from : (b : List ℕ) → said b ≡ from (length b / 10) b 0
unfolding said from
said_from b = let e : length b / 10 ≡ length b / 10 - 0 = omega arith in ap (λ (k : ℕ). objects_in k b) e

length_objects : (k : ℕ) (b : List ℕ) → length (objects_in k b) ≡ k
unfolding objects_in
length_objects zero b = refl
length_objects (suc k) b = ap suc (length_objects k (drop 10 b))

pub length-said : (b : List ℕ) → length (said b) ≡ length b / 10
unfolding said
length-said b = length_objects (length b / 10) b

objects_cut : (k n : ℕ) (b : List ℕ) → k ≤ n → objects_in k b ≡ take k (objects_in n b)
unfolding objects_in
objects_cut zero n b h = refl
objects_cut (suc k) zero b h = absurd (not-suc-le-zero h)
objects_cut (suc k) (suc n) b h = ap (λ (x : List Object). object_in (take 10 b) ∷ x) (objects_cut k n (drop 10 b) (le_of_suc-le-suc h))

pub from_cut : (w n : ℕ) (b : List ℕ) (i : ℕ) → w ≤ n → from w b i ≡ take (w - i) (from n b i)
unfolding from
from_cut w n b i h = objects_cut (w - i) (n - i) (drop (i * 10) b) (omega arith)
