-- A book on its own: what is held and kept of each card after a card is written in, struck out, or given a counter. Assumes nothing.
use Prim.Native.Nat.{ℕ, suc, ◌+◌}
use native.Mathlib.Omega.{arith}
use native.Mathlib.Numerals.{add-one}
use mathlib.Core.Path.{◌≡◌, refl, sym, ap, ap₂, ◌∙◌}
use mathlib.Core.Bool.{Bool, true, false, not, ◌&&◌, ◌||◌, cond, and-eq-true_iff, true≢false, false≢true}
use mathlib.Core.List.{List, [], ◌∷◌}
use Rattle.std.specs.Prelude.{Option, None, Some}
use lib.Dec.{eqb}
use lib.ListN.{length}
use borrow.Author.Tests.{eq-eqb, eqb-true, not-true}
use Rattle.octets.specs.Same.{same}
use Rattle.octets.proofs.SameLaws.{same_true, same_refl}
use Rattle.desks.specs.Book.{Holding, is_of, holds, last_of, without, with_last}
use Rattle.desks.specs.Sentences.{once}

-- the test of a card is equality
pub card_equal : (p : List ℕ) (s : ℕ) (pan : List ℕ) (q : ℕ) → (same p pan && eqb s q) ≡ true → (p ≡ pan) × (s ≡ q)
card_equal p s pan q e = let a = (and-eq-true_iff (same p pan) (eqb s q)).0 e in (same_true p pan a.0, eqb-true s q a.1)

pub card_refl : (p : List ℕ) (s : ℕ) → (same p p && eqb s s) ≡ true
card_refl p s = ap₂ (λ (x y : Bool). x && y) (same_refl p) (eq-eqb s s refl)

-- a card that is not held has no last counter
pub last_none : (p : List ℕ) (s : ℕ) (b : List Holding) → holds p s b ≡ false → last_of p s b ≡ None
unfolding holds last_of
last_none p s [] e = refl
last_none p s (h ∷ b) e = go (is_of p s h) e (last_none p s b)
  where
    go : (x : Bool) → (x || holds p s b) ≡ false → (holds p s b ≡ false → last_of p s b ≡ None) → cond x h.last (last_of p s b) ≡ None
    go true f ih = absurd (true≢false f)
    go false f ih = ih f

module _ (pan : List ℕ) (q : ℕ) where
  -- the card itself
  pub struck_own : (b : List Holding) → holds pan q (without pan q b) ≡ false
  unfolding holds without
  struck_own [] = refl
  struck_own (h ∷ b) = go (is_of pan q h) refl (struck_own b)
    where
      go : (y : Bool) → is_of pan q h ≡ y → holds pan q (without pan q b) ≡ false → holds pan q (cond y (without pan q b) (h ∷ without pan q b)) ≡ false
      go true e ih = ih
      go false e ih = ap₂ (λ (x y : Bool). x || y) e ih

  pub struck_none : (b : List Holding) → holds pan q b ≡ false → without pan q b ≡ b
  unfolding holds without
  struck_none [] e = refl
  struck_none (h ∷ b) e = go (is_of pan q h) e (struck_none b)
    where
      go : (y : Bool) → (y || holds pan q b) ≡ false → (holds pan q b ≡ false → without pan q b ≡ b) → cond y (without pan q b) (h ∷ without pan q b) ≡ h ∷ b
      go true f ih = absurd (true≢false f)
      go false f ih = ap (λ (x : List Holding). h ∷ x) (ih f)

  module _ (n : ℕ) where
    -- a holding with the counter is of the same card
    of_kept : (p : List ℕ) (s : ℕ) (h : Holding) (y : Bool) → is_of p s (cond y (record { pan = h.pan; sequence = h.sequence; last = Some n }) h) ≡ is_of p s h
    unfolding is_of
    of_kept p s h true = refl
    of_kept p s h false = refl

    pub kept_holds : (p : List ℕ) (s : ℕ) (b : List Holding) → holds p s (with_last pan q n b) ≡ holds p s b
    unfolding holds with_last
    kept_holds p s [] = refl
    kept_holds p s (h ∷ b) = ap₂ (λ (x y : Bool). x || y) (of_kept p s h (is_of pan q h)) (kept_holds p s b)

    pub kept_own : (b : List Holding) → holds pan q b ≡ true → last_of pan q (with_last pan q n b) ≡ Some n
    unfolding holds last_of with_last
    kept_own [] e = absurd (false≢true e)
    kept_own (h ∷ b) e = go (is_of pan q h) refl e (kept_own b)
      where
        go : (y : Bool) → is_of pan q h ≡ y → (y || holds pan q b) ≡ true → (holds pan q b ≡ true → last_of pan q (with_last pan q n b) ≡ Some n)
            → last_of pan q (cond y (record { pan = h.pan; sequence = h.sequence; last = Some n }) h ∷ with_last pan q n b) ≡ Some n
        go true w f ih = ap (λ (x : Bool). cond x (Some n) (last_of pan q (with_last pan q n b))) (of_kept pan q h true ∙ w)
        go false w f ih = ap (λ (x : Bool). cond x h.last (last_of pan q (with_last pan q n b))) w ∙ ih f

    pub kept_length : (b : List Holding) → length (with_last pan q n b) ≡ length b
    unfolding with_last
    kept_length [] = refl
    kept_length (h ∷ b) = ap suc (kept_length b)

    pub kept_once : (b : List Holding) → once (with_last pan q n b) ≡ once b
    unfolding once with_last
    kept_once [] = refl
    kept_once (h ∷ b) = go (is_of pan q h) (kept_once b)
      where
        go : (y : Bool) → once (with_last pan q n b) ≡ once b → once (cond y (record { pan = h.pan; sequence = h.sequence; last = Some n }) h ∷ with_last pan q n b) ≡ once (h ∷ b)
        go true ih = ap₂ (λ (x z : Bool). not x && z) (kept_holds h.pan h.sequence b) ih
        go false ih = ap₂ (λ (x z : Bool). not x && z) (kept_holds h.pan h.sequence b) ih

  -- another card
  module _ (p : List ℕ) (s : ℕ) (d : (same p pan && eqb s q) ≡ false) where
    of_other : (h : Holding) → is_of pan q h ≡ true → is_of p s h ≡ false
    unfolding is_of
    of_other h e =
        let c = card_equal pan q h.pan h.sequence e in
        sym (ap₂ (λ (x : List ℕ) (y : ℕ). same p x && eqb s y) c.0 c.1) ∙ d

    pub struck_holds : (b : List Holding) → holds p s (without pan q b) ≡ holds p s b
    unfolding holds without
    struck_holds [] = refl
    struck_holds (h ∷ b) = go (is_of pan q h) refl (struck_holds b)
      where
        go : (y : Bool) → is_of pan q h ≡ y → holds p s (without pan q b) ≡ holds p s b
            → holds p s (cond y (without pan q b) (h ∷ without pan q b)) ≡ (is_of p s h || holds p s b)
        go true e ih = ih ∙ sym (ap (λ (x : Bool). x || holds p s b) (of_other h e))
        go false e ih = ap (λ (x : Bool). is_of p s h || x) ih

    pub struck_last : (b : List Holding) → last_of p s (without pan q b) ≡ last_of p s b
    unfolding last_of without
    struck_last [] = refl
    struck_last (h ∷ b) = go (is_of pan q h) refl (struck_last b)
      where
        go : (y : Bool) → is_of pan q h ≡ y → last_of p s (without pan q b) ≡ last_of p s b
            → last_of p s (cond y (without pan q b) (h ∷ without pan q b)) ≡ cond (is_of p s h) h.last (last_of p s b)
        go true e ih = ih ∙ sym (ap (λ (x : Bool). cond x h.last (last_of p s b)) (of_other h e))
        go false e ih = ap (λ (x : Option ℕ). cond (is_of p s h) h.last x) ih

    pub kept_last : (n : ℕ) (b : List Holding) → last_of p s (with_last pan q n b) ≡ last_of p s b
    unfolding last_of with_last
    kept_last n [] = refl
    kept_last n (h ∷ b) = go (is_of pan q h) refl (kept_last n b)
      where
        go : (y : Bool) → is_of pan q h ≡ y → last_of p s (with_last pan q n b) ≡ last_of p s b
            → last_of p s (cond y (record { pan = h.pan; sequence = h.sequence; last = Some n }) h ∷ with_last pan q n b) ≡ cond (is_of p s h) h.last (last_of p s b)
        go true e ih =
            ap₂ (λ (x : Bool) (l : Option ℕ). cond x (Some n) l) (of_kept n p s h true ∙ of_other h e) ih
            ∙ sym (ap (λ (x : Bool). cond x h.last (last_of p s b)) (of_other h e))
        go false e ih = ap (λ (x : Option ℕ). cond (is_of p s h) h.last x) ih

  -- what is struck out was there
  pub struck_absent : (p : List ℕ) (s : ℕ) (b : List Holding) → holds p s b ≡ false → holds p s (without pan q b) ≡ false
  struck_absent p s b e = go (same p pan && eqb s q) refl
    where
      go : (x : Bool) → (same p pan && eqb s q) ≡ x → holds p s (without pan q b) ≡ false
      go true w = let c = card_equal p s pan q w in ap₂ (λ (x : List ℕ) (y : ℕ). holds x y (without pan q b)) c.0 c.1 ∙ struck_own b
      go false w = struck_holds p s w b ∙ e

  pub struck_once : (b : List Holding) → once b ≡ true → once (without pan q b) ≡ true
  unfolding once without
  struck_once [] e = refl
  struck_once (h ∷ b) e = go (is_of pan q h) (struck_once b)
    where
      parts : (not (holds h.pan h.sequence b) ≡ true) × (once b ≡ true)
      parts = (and-eq-true_iff (not (holds h.pan h.sequence b)) (once b)).0 e

      go : (y : Bool) → (once b ≡ true → once (without pan q b) ≡ true) → once (cond y (without pan q b) (h ∷ without pan q b)) ≡ true
      go true ih = ih parts.1
      go false ih = ap₂ (λ (x z : Bool). not x && z) (struck_absent h.pan h.sequence b (not-true (holds h.pan h.sequence b) parts.0)) (ih parts.1)

  -- a card that stands in the book once
  pub struck_length : (b : List Holding) → once b ≡ true → holds pan q b ≡ true → length (without pan q b) + 1 ≡ length b
  unfolding is_of holds once without
  struck_length [] o e = absurd (false≢true e)
  struck_length (h ∷ b) o e = go (same pan h.pan && eqb q h.sequence) refl e (struck_length b)
    where
      parts : (not (holds h.pan h.sequence b) ≡ true) × (once b ≡ true)
      parts = (and-eq-true_iff (not (holds h.pan h.sequence b)) (once b)).0 o

      go : (y : Bool) → (same pan h.pan && eqb q h.sequence) ≡ y → (y || holds pan q b) ≡ true → (once b ≡ true → holds pan q b ≡ true → length (without pan q b) + 1 ≡ length b)
          → length (cond y (without pan q b) (h ∷ without pan q b)) + 1 ≡ suc (length b)
      go true w f ih =
          let c = card_equal pan q h.pan h.sequence w in
          let z : holds pan q b ≡ false = ap₂ (λ (x : List ℕ) (y : ℕ). holds x y b) c.0 c.1 ∙ not-true (holds h.pan h.sequence b) parts.0 in
          omega (arith, ap length (struck_none b z), add-one (length b))
      go false w f ih = omega (arith, ih parts.1 f, add-one (length b), add-one (length (without pan q b)))
