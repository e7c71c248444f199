-- The laws of the length field, by which all else knows it. Assumes nothing.
use mathlib.Core.Path.{◌≡◌, refl, sym, ap, ◌∙◌}
use mathlib.Core.Bool.{Bool, true, false, and-false}
use mathlib.Core.List.{List, [], ◌∷◌, ◌++◌}
use Prim.Native.Nat.{ℕ, ◌+◌, ◌≤◌, ◌<◌}
use native.Mathlib.Omega.{arith}
use borrow.Author.Tests.{ne_eqb, le-leb, lt-leb, leb-true, leb-false, eqb-true, eqb-false}
use lib.Dec.{leb, eqb, lit≤}
use lib.ListN.{length, get_or, take, drop}
use Rattle.octets.proofs.Parts.{elements_part}
use Rattle.shapes.specs.Length.{largest, largest_short, length_field, field_says}
use Rattle.shapes.specs.Shape.{length_of, length_of_under, place_of, place_of_under}

pub largest_is : largest ≡ 255
unfolding largest
largest_is = refl

pub largest_small : largest ≤ 255
unfolding largest
largest_small = lit≤ tt

-- the two forms that are written
pub field_short : (n : ℕ) → n ≤ largest_short → length_field n ≡ n ∷ []
unfolding length_field
field_short n h = simp (le-leb _ _ h)

pub field_long : (n : ℕ) → largest_short < n → length_field n ≡ 0x81 ∷ n ∷ []
unfolding length_field
field_long n h = simp (lt-leb _ _ h)

-- the data stand after tag and field
pub place_is : (n : ℕ) → place_of n ≡ 1 + length (length_field n)
unfolding place_of_under
place_is n = refl

pub place_short : (n : ℕ) → n ≤ largest_short → place_of n ≡ 2
place_short n h = place_is n ∙ ap (λ (f : List ℕ). 1 + length f) (field_short n h)

pub place_long : (n : ℕ) → largest_short < n → place_of n ≡ 3
place_long n h = place_is n ∙ ap (λ (f : List ℕ). 1 + length f) (field_long n h)

-- a length has the one form or the other
pub data Form (n : ℕ) : Type 0 where
  short : n ≤ largest_short → Form n
  long : largest_short < n → Form n

pub form : (n : ℕ) → Form n
form n = go (leb n largest_short) refl
  where
    go : (b : Bool) → leb n largest_short ≡ b → Form n
    go true e = short (leb-true _ _ e)
    go false e = long (leb-false _ _ e)

pub place_small : (n : ℕ) → place_of n ≤ 3
place_small n = go (form n)
  where
    go : Form n → place_of n ≤ 3
    go (short h) = omega (arith, place_short n h)
    go (long h) = omega (arith, place_long n h)

pub length_head : (t n : ℕ) → length (t ∷ length_field n) ≡ place_of n
length_head t n = let p = place_is n in omega arith

-- what a field says: its byte; the byte after 81; or more than the largest
pub says_short : (a b : ℕ) → a ≤ largest_short → field_says a b ≡ a
unfolding field_says
says_short a b h = simp (le-leb _ _ h)

pub says_long : (a b : ℕ) → a ≡ 0x81 → largest_short < b → field_says a b ≡ b
unfolding field_says largest_short
says_long a b e h = simp (e, le-leb 128 b (omega arith))

pub says_other : (a b : ℕ) → largest_short < a → (a ≡ 0x81 → ⊥) → field_says a b ≡ largest + 1
unfolding field_says
says_other a b h e = simp (lt-leb _ _ h, ne_eqb _ _ e)

pub says_low : (a b : ℕ) → largest_short < a → b ≤ largest_short → field_says a b ≡ largest + 1
unfolding field_says
says_low a b h l = simp (lt-leb _ _ h, lt-leb (largest_short + 1) b (omega arith), and-false)

pub data Says (a b : ℕ) : Type 0 where
  one : a ≤ largest_short → Says a b
  two : a ≡ 0x81 → largest_short < b → Says a b
  none : field_says a b ≡ largest + 1 → Says a b

pub says : (a b : ℕ) → Says a b
says a b = go (form a) (eqb a 0x81) refl (form b)
  where
    go : Form a → (x : Bool) → eqb a 0x81 ≡ x → Form b → Says a b
    go (short h) x e f = one h
    go (long h) true e (long l) = two (eqb-true _ _ e) l
    go (long h) true e (short l) = none (says_low a b h l)
    go (long h) false e f = none (says_other a b h (eqb-false _ _ e))

is_said : (m : List ℕ) → length_of m ≡ field_says (get_or m 1 0) (get_or m 2 0)
unfolding length_of_under
is_said m = refl

-- one law for each way out of reading a length
module _ (m : List ℕ) (a : ℕ) (e : a ≡ get_or m 1 0) where
  pub read_short : a ≤ largest_short → a ≡ length_of m
  read_short h = e ∙ sym (is_said m ∙ says_short (get_or m 1 0) (get_or m 2 0) (omega arith))

  pub read_other : largest_short < a → (a ≡ 0x81 → ⊥) → largest + 1 ≡ length_of m
  read_other h n = sym (is_said m ∙ says_other (get_or m 1 0) (get_or m 2 0) (omega arith) (λ w. n (e ∙ w)))

  module _ (b : ℕ) (f : b ≡ get_or m 2 0) where
    pub read_low : largest_short < a → b ≤ largest_short → largest + 1 ≡ length_of m
    read_low h l = sym (is_said m ∙ says_low (get_or m 1 0) (get_or m 2 0) (omega arith) (omega arith))

    pub read_long : a ≡ 0x81 → largest_short < b → b ≡ length_of m
    read_long h l = f ∙ sym (is_said m ∙ says_long (get_or m 1 0) (get_or m 2 0) (sym e ∙ h) (omega arith))

-- a field that is read is the one that is written
there : (m f x : List ℕ) → f ≡ x → take (length x) (drop 1 m) ≡ x → take (length f) (drop 1 m) ≡ f
there m f x e h = ap (λ (k : List ℕ). take (length k) (drop 1 m)) e ∙ h ∙ sym e

pub field_read : (m : List ℕ) → length_of m ≤ largest → place_of (length_of m) ≤ length m
    → take (length (length_field (length_of m))) (drop 1 m) ≡ length_field (length_of m)
field_read m h l = go (says (get_or m 1 0) (get_or m 2 0))
  where
    go : Says (get_or m 1 0) (get_or m 2 0) → take (length (length_field (length_of m))) (drop 1 m) ≡ length_field (length_of m)
    go (one s) =
        let e : length_of m ≡ get_or m 1 0 = is_said m ∙ says_short (get_or m 1 0) (get_or m 2 0) s in
        let p : place_of (length_of m) ≡ 2 = ap place_of e ∙ place_short (get_or m 1 0) s in
        there m _ (get_or m 1 0 ∷ []) (ap length_field e ∙ field_short (get_or m 1 0) s) (elements_part m 1 1 (omega arith))
    go (two s t) =
        let e : length_of m ≡ get_or m 2 0 = is_said m ∙ says_long (get_or m 1 0) (get_or m 2 0) s t in
        let p : place_of (length_of m) ≡ 3 = ap place_of e ∙ place_long (get_or m 2 0) t in
        there m _ (0x81 ∷ get_or m 2 0 ∷ []) (ap length_field e ∙ field_long (get_or m 2 0) t)
        (elements_part m 1 2 (omega arith) ∙ ap (λ (x : ℕ). x ∷ get_or m 2 0 ∷ []) s)
    go (none e) = let w : length_of m ≡ largest + 1 = is_said m ∙ e in absurd (omega arith)

-- a field that is written is read
pub read_field : (t n : ℕ) (s : List ℕ) → n ≤ largest → length_of (t ∷ (length_field n ++ s)) ≡ n
unfolding length_of_under
read_field t n s h = go (form n)
  where
    go : Form n → length_of (t ∷ (length_field n ++ s)) ≡ n
    go (short l) = ap (λ (f : List ℕ). length_of (t ∷ (f ++ s))) (field_short n l) ∙ says_short n (get_or (n ∷ s) 1 0) l
    go (long l) = ap (λ (f : List ℕ). length_of (t ∷ (f ++ s))) (field_long n l) ∙ says_long 0x81 n refl l
