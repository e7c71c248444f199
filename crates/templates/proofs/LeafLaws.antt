-- One law for each way out of the leaves of reading. Assumes nothing.
use Rattle.std.specs.Prelude.{Ok, Err}
use Rattle.answers.specs.declared.Refusal.TheVariants.{BadObject, TooDeep, TooMany}
use mathlib.Core.Path.{◌≡◌, refl, sym, ap, ◌∙◌}
use mathlib.Core.Bool.{Bool, true, false, not, ◌&&◌, ◌||◌, and-false, true≢false}
use mathlib.Core.Logic.{◌⊎◌, inl, inr}
use Prim.Native.Nat.{ℕ, ◌+◌, ◌≤◌, ◌<◌}
use borrow.Author.Tests.{eq-eqb, ne_eqb, le-leb, lt-leb, lt-ltb, le-ltb, not-true, not-false}
use lib.Dec.{eqb, leb}
use lib.ListN.{get_or}
use mathlib.Core.List.{List}
use Rattle.shapes.specs.Length.{largest}
use Rattle.templates.specs.declared.Holder.{Holder}
use Rattle.templates.specs.declared.Holder.TheVariants.{Outer, Fresh, Begun}
use Rattle.templates.specs.declared.Head.{Head}
use Rattle.templates.specs.Grammar.{outer_tag, command_tag, identifier_tag}
use Rattle.templates.specs.Reading.{stands, is_template, is_data, tag_in, length_fits, good, verdict}

-- a chain of tests, link by link: v is what the tests so far say
pub and_next : {a b v : Bool} → a ≡ true → v ≡ b → v ≡ (a && b)
and_next {a} {b} {v} e f = f ∙ sym (ap (λ (x : Bool). x && b) e)

pub and_ends : {a v : Bool} (b : Bool) → a ≡ false → v ≡ a → v ≡ (a && b)
and_ends {a} {v} b e f = f ∙ e ∙ sym (ap (λ (x : Bool). x && b) e)

pub or_ends : {a v : Bool} (b : Bool) → a ≡ true → v ≡ a → v ≡ (a || b)
or_ends {a} {v} b e f = f ∙ e ∙ sym (ap (λ (x : Bool). x || b) e)

pub or_next : {a b v : Bool} → a ≡ false → v ≡ b → v ≡ (a || b)
or_next {a} {b} {v} e f = f ∙ sym (ap (λ (x : Bool). x || b) e)

-- tags
pub template_tags : (t : ℕ) (v : Bool) → v ≡ (eqb t 0x71 || (eqb t 0x72 || eqb t outer_tag)) → v ≡ is_template t
unfolding is_template stands
template_tags t v e = e

pub template_middle : (t : ℕ) (v : Bool) → (t ≡ 0x71 → ⊥) → v ≡ eqb t 0x72 → (t ≡ 0x71) ⊎ ((t ≡ 0x71 → ⊥) × (t ≡ 0x72)) → v ≡ is_template t
template_middle t v a e (inl f) = absurd (a f)
template_middle t v a e (inr f) = template_tags t v (or_next (ne_eqb _ _ a) (or_ends _ (eq-eqb _ _ f.1) e))

pub template_last : (t : ℕ) → (t ≡ 0x71 → ⊥) → (t ≡ 0x72 → ⊥) → eqb t outer_tag ≡ is_template t
template_last t a b = template_tags t (eqb t outer_tag) (or_next (ne_eqb _ _ a) (or_next (ne_eqb _ _ b) refl))

-- holders
pub stands_outer : (h : Holder) (t : ℕ) (r : Bool) → h ≡ Outer → r ≡ is_template t → r ≡ stands h t
unfolding is_template
stands_outer h t r e f = f ∙ ap (λ (k : Holder). stands k t) (sym e)

pub stands_fresh : (h : Holder) (t : ℕ) (r : Bool) → h ≡ Fresh → r ≡ is_data t → r ≡ stands h t
unfolding is_data
stands_fresh h t r e f = f ∙ ap (λ (k : Holder). stands k t) (sym e)

pub stands_begun : (h : Holder) (t : ℕ) → h ≡ Begun → eqb t command_tag ≡ stands h t
unfolding stands
stands_begun h t e = ap (λ (k : Holder). stands k t) (sym e)

-- the tag that bytes begin with
pub tag_one : (xs : List ℕ) (a : ℕ) → a ≡ get_or xs 0 0 → (a ≡ 0x9f → ⊥) → a ≡ tag_in xs
unfolding tag_in
tag_one xs a e n = simp (ne_eqb (get_or xs 0 0) 0x9f (λ i. n (e ∙ i))) e

module _ (xs : List ℕ) (a b : ℕ) (e : a ≡ get_or xs 0 0) (f : b ≡ get_or xs 1 0) where
  pub tag_lone : (b ≡ 0x18 → ⊥) → a ≡ tag_in xs
  unfolding tag_in
  tag_lone n = simp (ne_eqb (get_or xs 1 0) 0x18 (λ i. n (f ∙ i)), and-false) e

  pub tag_two : a ≡ 0x9f → b ≡ 0x18 → identifier_tag ≡ tag_in xs
  unfolding tag_in
  tag_two m n = simp (eq-eqb (get_or xs 0 0) 0x9f (sym e ∙ m), eq-eqb (get_or xs 1 0) 0x18 (sym f ∙ n))

-- good or not: the first three tests, and the last
last_ends : (a b c f v : Bool) → v ≡ (a && (b && c)) → v ≡ false → v ≡ (a && (b && (c && f)))
last_ends false b c f v e w = w
last_ends true false c f v e w = w
last_ends true true false f v e w = w
last_ends true true true f v e w = absurd (true≢false (sym e ∙ w))

last_next : (a b c f v r : Bool) → v ≡ (a && (b && c)) → v ≡ true → r ≡ f → r ≡ (a && (b && (c && f)))
last_next false b c f v r e w g = absurd (true≢false (sym w ∙ e))
last_next true false c f v r e w g = absurd (true≢false (sym w ∙ e))
last_next true true false f v r e w g = absurd (true≢false (sym w ∙ e))
last_next true true true f v r e w g = g

module _ (h : Holder) (e : Head) (n : ℕ) (s : Bool) (w : s ≡ stands h e.tag) (v : Bool) where
  pub third_next : s ≡ true → e.length ≤ largest → v ≡ leb (e.size + e.length) n → v ≡ (s && (leb e.length largest && leb (e.size + e.length) n))
  third_next a b i = and_next a (and_next (le-leb _ _ b) i)

  pub third_ends : (t : Bool) → t ≡ (s && leb e.length largest) → ((s ≡ true) × (largest < e.length)) ⊎ (s ≡ false) → v ≡ t
      → v ≡ (s && (leb e.length largest && leb (e.size + e.length) n))
  third_ends t j (inl q) i = and_next q.0 (and_ends _ (lt-leb _ _ q.1) (i ∙ j ∙ ap (λ (x : Bool). x && leb e.length largest) q.0))
  third_ends t j (inr q) i = and_ends _ q (i ∙ j ∙ ap (λ (x : Bool). x && leb e.length largest) q ∙ sym q)

  module _ (i : v ≡ (s && (leb e.length largest && leb (e.size + e.length) n))) where
    pub good_not : v ≡ false → v ≡ good h e n
    unfolding good
    good_not f = last_ends (stands h e.tag) (leb e.length largest) (leb (e.size + e.length) n) (length_fits e.tag e.length) v (i ∙ ap (λ (x : Bool). x && (leb e.length largest && leb (e.size + e.length) n)) w) f

    pub good_length : v ≡ true → (r : Bool) → r ≡ length_fits e.tag e.length → r ≡ good h e n
    unfolding good
    good_length f r g =
        last_next (stands h e.tag) (leb e.length largest) (leb (e.size + e.length) n) (length_fits e.tag e.length) v r
        (i ∙ ap (λ (x : Bool). x && (leb e.length largest && leb (e.size + e.length) n)) w)
        f
        g

-- 16, 17, 18
pub judged_bad : (b : Bool) (l c : ℕ) → not b ≡ true → Err BadObject ≡ verdict b l c
unfolding verdict
judged_bad b l c e = simp (not-true b e)

pub judged_deep : (b : Bool) (l c : ℕ) → not b ≡ false → 4 < l → Err TooDeep ≡ verdict b l c
unfolding verdict
judged_deep b l c e d = simp (not-false b e, lt-leb _ _ d)

pub judged_many : (b : Bool) (l c : ℕ) → not b ≡ false → l ≤ 4 → 32 ≤ c → Err TooMany ≡ verdict b l c
unfolding verdict
judged_many b l c e d f = simp (not-false b e, le-leb _ _ d, le-ltb _ _ f)

pub judged_none : (b : Bool) (l c : ℕ) → not b ≡ false → l ≤ 4 → c < 32 → Ok tt ≡ verdict b l c
unfolding verdict
judged_none b l c e d f = simp (not-false b e, le-leb _ _ d, lt-ltb _ _ f)
