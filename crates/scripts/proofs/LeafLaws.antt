-- One law for each way out of the writer's leaves. Assumes nothing.
use mathlib.Core.Path.{◌≡◌, refl, sym, ap, ◌∙◌}
use mathlib.Core.Bool.{Bool, true, false, not, ◌&&◌, cond, and-false}
use mathlib.Core.List.{List}
use mathlib.Core.Logic.{◌⊎◌, inl, inr}
use Prim.Native.Nat.{ℕ, ◌+◌, ◌-◌, ◌≤◌, ◌<◌}
use native.Mathlib.Omega.{arith}
use borrow.Author.Tests.{eq-eqb, ne_eqb, le-leb, lt-leb, leb-true, leb-false}
use lib.Dec.{leb}
use lib.ListN.{length}
use Rattle.shapes.specs.Length.{largest}
use Rattle.shapes.specs.Shape.{place_of}
use Rattle.templates.specs.declared.Holder.{Holder}
use Rattle.templates.specs.declared.Holder.TheVariants.{Outer}
use Rattle.templates.specs.declared.Object.{Object}
use Rattle.templates.specs.Reading.{stands, after, within, is_template, is_data, ahead, length_fits}
use Rattle.templates.proofs.HeadLaws.{head_size_lem, head_small}
use Rattle.scripts.specs.Writing.{lies, own_length, added_by, open_at, placed, level_after, holder_after}
use Rattle.scripts.specs.Inner.{Headed, Added}

module _ (s : List ℕ) (o : Object) (d : Bool) (e : d ≡ is_data o.tag) where
  pub lies_template : d ≡ false → not d ≡ lies s o
  unfolding lies
  lies_template h = simp (sym e ∙ h, h)

  pub lies_long : d ≡ true → largest < o.length → leb o.length largest ≡ lies s o
  unfolding lies
  lies_long h l = simp (sym e ∙ h, lt-leb _ _ l)

  pub lies_past : d ≡ true → length s < o.length → leb o.length (length s) ≡ lies s o
  unfolding lies
  lies_past h l = simp (sym e ∙ h, lt-leb _ _ l, lt-leb (o.place + o.length) (length s) (omega arith), and-false)

  pub lies_there : d ≡ true → o.length ≤ largest → o.length ≤ length s → leb o.place (length s - o.length) ≡ lies s o
  unfolding lies
  lies_there h l m = simp (sym e ∙ h, le-leb _ _ l) (go (leb o.place (length s - o.length)) refl)
    where
      go : (b : Bool) → leb o.place (length s - o.length) ≡ b → leb o.place (length s - o.length) ≡ leb (o.place + o.length) (length s)
      go true f = let g : o.place ≤ length s - o.length = leb-true _ _ f in f ∙ sym (le-leb (o.place + o.length) (length s) (omega arith))
      go false f = let g : length s - o.length < o.place = leb-false _ _ f in f ∙ sym (lt-leb (o.place + o.length) (length s) (omega arith))

-- the source is too short, or the data too long
pub past_or : {l m : ℕ} → ((l ≤ largest) × (m < l)) ⊎ (largest < l) → l ≤ largest → m < l
past_or (inl q) h = q.1
past_or (inr q) h = absurd (omega arith)

module _ (o : Object) (d : Bool) (e : d ≡ is_data o.tag) where
  pub own_data : (n : ℕ) → d ≡ true → o.length ≡ own_length o n
  unfolding own_length
  own_data n h = simp (sym e ∙ h)

  pub own_template : (n : ℕ) → d ≡ false → n ≡ own_length o n
  unfolding own_length
  own_template n h = simp (sym e ∙ h)

pub headed : (t n a p : ℕ) → a ≡ ahead t → p ≡ place_of n → Headed t n (a + p)
headed t n a p e f = let h = head_size_lem t n in let m = head_small t n in record { is = omega arith; small = omega arith }

pub own_small : (o : Object) (r : ℕ) → o.length < 65536 → r ≡ own_length o 0 → r < 65536
unfolding own_length
own_small o r h e = go (is_data o.tag) refl
  where
    go : (b : Bool) → is_data o.tag ≡ b → r < 65536
    go true f = let x : r ≡ o.length = e ∙ ap (λ (z : Bool). cond z o.length 0) f in omega arith
    go false f = let x : r ≡ 0 = e ∙ ap (λ (z : Bool). cond z o.length 0) f in omega arith

pub added : (o : Object) (n a r : ℕ) → o.length < 65536 → Headed o.tag n a → r ≡ own_length o 0 → Added o n (a + r)
unfolding added_by
added o n a r h e f = let i = e.is in let j = e.small in let m = own_small o r h f in record { is = omega arith; small = omega arith }

-- where an object may stand
module _ (d : ℕ) (h : Holder) (l : ℕ) where
  pub open_innermost : l ≡ d → h ≡ open_at d h l
  unfolding open_at
  open_innermost e = simp (eq-eqb _ _ e)

  pub open_outside : (l ≡ d → ⊥) → Outer ≡ open_at d h l
  unfolding open_at
  open_outside e = simp (ne_eqb _ _ e)

module _ (d : ℕ) (h : Holder) (o : Object) (n : ℕ) where
  pub placed_zero : o.level ≡ 0 → false ≡ placed d h o n
  unfolding placed
  placed_zero e = simp (lt-leb 1 o.level (omega arith))

  pub placed_deep : d < o.level → false ≡ placed d h o n
  unfolding placed
  placed_deep e = simp (lt-leb _ _ e, and-false)

  module _ (k : Holder) (i : k ≡ open_at d h o.level) (x : Bool) (j : x ≡ stands k o.tag) where
    stood : x ≡ stands (open_at d h o.level) o.tag
    stood = j ∙ ap (λ (z : Holder). stands z o.tag) i

    placed_there : 1 ≤ o.level → o.level ≤ d → placed d h o n ≡ (x && (length_fits o.tag o.length && leb n largest))
    unfolding placed
    placed_there a b = simp (le-leb 1 o.level a, le-leb _ _ b, sym stood)

    -- v is what the first two tests say
    pub both_next : x ≡ true → (y : Bool) → y ≡ length_fits o.tag o.length → (v : Bool) → v ≡ y → v ≡ (x && length_fits o.tag o.length)
    both_next a y f v e = e ∙ f ∙ sym (ap (λ (z : Bool). z && length_fits o.tag o.length) a)

    pub both_end : x ≡ false → (v : Bool) → v ≡ x → v ≡ (x && length_fits o.tag o.length)
    both_end a v e = e ∙ a ∙ sym (ap (λ (z : Bool). z && length_fits o.tag o.length) a)

    module _ (a : 1 ≤ o.level) (b : o.level ≤ d) (v : Bool) (e : v ≡ (x && length_fits o.tag o.length)) where
      chain : placed d h o n ≡ (v && leb n largest)
      chain = placed_there a b ∙ go x (length_fits o.tag o.length) ∙ ap (λ (z : Bool). z && leb n largest) (sym e)
        where
          go : (p q : Bool) → (p && (q && leb n largest)) ≡ ((p && q) && leb n largest)
          go true q = refl
          go false q = refl

      pub placed_not : v ≡ false → v ≡ placed d h o n
      placed_not f = f ∙ sym (chain ∙ ap (λ (z : Bool). z && leb n largest) f)

      pub placed_last : v ≡ true → leb n largest ≡ placed d h o n
      placed_last f = sym (chain ∙ ap (λ (z : Bool). z && leb n largest) f)

module _ (o : Object) (t : Bool) (e : t ≡ is_template o.tag) where
  pub level_template : t ≡ true → o.level + 1 ≡ level_after o
  unfolding level_after
  level_template h = simp (sym e ∙ h)

  pub level_data : t ≡ false → o.level ≡ level_after o
  unfolding level_after
  level_data h = simp (sym e ∙ h)

  pub holder_template : (d : ℕ) (h k : Holder) → k ≡ within o.tag → t ≡ true → k ≡ holder_after d h o
  unfolding holder_after
  holder_template d h k i f = simp (sym e ∙ f) i

  pub holder_data : (d : ℕ) (h k : Holder) → k ≡ open_at d h o.level → (r : Holder) → r ≡ after k → t ≡ false → r ≡ holder_after d h o
  unfolding holder_after
  holder_data d h k i r j f = simp (sym e ∙ f) (j ∙ ap after i)
