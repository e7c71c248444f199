-- The test of equality is equality, and a turn of the loop that computes it. Assumes nothing.
use mathlib.Core.Path.{◌≡◌, refl, sym, ap, ap₂, ◌∙◌}
use mathlib.Core.Bool.{Bool, true, false, ◌&&◌, and-false, and-true, and_assoc, true≢false}
use mathlib.Core.List.{List, [], ◌∷◌}
use mathlib.Core.Logic.{◌⊎◌, inl, inr}
use Prim.Native.Nat.{ℕ, suc}
use native.Mathlib.Omega.{arith}
use borrow.Author.Tests.{eq-eqb, ne_eqb, eqb-true, eqb-false}
use lib.Bits.{bit_or, bit_xor, xor_self, or_zero_r}
use lib.Dec.{eqb}
use lib.ListN.{length}
use Rattle.octets.specs.Same.{same}
use Rattle.octets.proofs.Xor.{or_zero, xor_zero}

pub same_refl : (s : List ℕ) → same s s ≡ true
unfolding same
same_refl [] = refl
same_refl (x ∷ s) = simp (eq-eqb x x refl, same_refl s)

pub same_true : (s t : List ℕ) → same s t ≡ true → s ≡ t
unfolding same
same_true [] [] e = refl
same_true [] (y ∷ t) e = absurd (true≢false (sym e))
same_true (x ∷ s) [] e = absurd (true≢false (sym e))
same_true (x ∷ s) (y ∷ t) e = go (eqb x y) refl e (same_true s t)
  where
    go : (b : Bool) → eqb x y ≡ b → (b && same s t) ≡ true → (same s t ≡ true → s ≡ t) → x ∷ s ≡ y ∷ t
    go true p q ih = ap₂ (λ (h : ℕ) (l : List ℕ). h ∷ l) (eqb-true x y p) (ih q)
    go false p q ih = absurd (true≢false (sym q))

-- strings of two lengths differ
pub same_length : (s t : List ℕ) → (length s ≡ length t → ⊥) → false ≡ same s t
unfolding same
same_length [] [] h = absurd (h refl)
same_length [] (y ∷ t) h = refl
same_length (x ∷ s) [] h = refl
same_length (x ∷ s) (y ∷ t) h = simp (sym (same_length s t (λ e. h (ap suc e))), and-false)

-- the differences are collected: none up to here, and the rests are the same
no_difference : (d x y : ℕ) → eqb (bit_or d (bit_xor x y)) 0 ≡ (eqb d 0 && eqb x y)
no_difference d x y = go (eqb d 0) (eqb x y) refl refl
  where
    go : (p q : Bool) → eqb d 0 ≡ p → eqb x y ≡ q → eqb (bit_or d (bit_xor x y)) 0 ≡ (p && q)
    go true true a b =
        let dz : d ≡ 0 = eqb-true d 0 a in
        let e : x ≡ y = eqb-true x y b in
        eq-eqb (bit_or d (bit_xor x y)) 0
        (ap₂ (λ (m n : ℕ). bit_or m (bit_xor n y)) dz e ∙ ap (bit_or 0) (xor_self y) ∙ or_zero_r 0)
    go true false a b = ne_eqb (bit_or d (bit_xor x y)) 0 (λ z. eqb-false x y b (xor_zero x y (or_zero d (bit_xor x y) z).1))
    go false q a b = ne_eqb (bit_or d (bit_xor x y)) 0 (λ z. eqb-false d 0 a (or_zero d (bit_xor x y) z).0)

pub same_turn : (s t u v : List ℕ) (d x y : ℕ) (r : Bool) → s ≡ x ∷ u → t ≡ y ∷ v → (length s ≡ length t) × ((eqb d 0 && same s t) ≡ r)
    → (length u ≡ length v) × ((eqb (bit_or d (bit_xor x y)) 0 && same u v) ≡ r)
unfolding same
same_turn s t u v d x y r e f h =
    let l : suc (length u) ≡ suc (length v) = ap length (sym e) ∙ h.0 ∙ ap length f in (
      omega arith,
      ap (λ (b : Bool). b && same u v) (no_difference d x y)
          ∙ and_assoc (eqb d 0) (eqb x y) (same u v)
          ∙ ap₂ (λ (p q : List ℕ). eqb d 0 && same p q) (sym e) (sym f)
          ∙ h.1,
    )

pub same_end : (s t : List ℕ) (d : ℕ) (r : Bool) → (length s ≡ length t) × ((eqb d 0 && same s t) ≡ r) → (length s ≡ 0) ⊎ (length t ≡ 0) → eqb d 0 ≡ r
unfolding same
same_end [] [] d r h o = sym (and-true (eqb d 0)) ∙ h.1
same_end [] (y ∷ t) d r h o = let z : 0 ≡ suc (length t) = h.0 in absurd (omega arith)
same_end (x ∷ s) [] d r h o = let z : suc (length s) ≡ 0 = h.0 in absurd (omega arith)
same_end (x ∷ s) (y ∷ t) d r h (inl z) = let w : suc (length s) ≡ 0 = z in absurd (omega arith)
same_end (x ∷ s) (y ∷ t) d r h (inr z) = let w : suc (length t) ≡ 0 = z in absurd (omega arith)
