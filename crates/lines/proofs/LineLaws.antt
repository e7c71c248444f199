-- The longest line, and whether a line is digits, test by test. Assumes nothing.
use Prim.Native.Nat.{ℕ, zero, suc, ◌+◌, ◌*◌, ◌%◌, ◌≤◌, ◌<◌}
use native.Mathlib.Omega.{arith}
use mathlib.Core.Path.{◌≡◌, refl, sym, ap}
use mathlib.Core.Bool.{Bool, true, false, ◌&&◌}
use mathlib.Core.List.{List, [], ◌∷◌}
use lib.Dec.{leb, eqb}
use lib.ListN.{length, get_or}
use Rattle.std.specs.Bool.{MatchBool}
use Rattle.std.specs.List.{AllWithin, HoldsAt}
use borrow.Author.Tests.{le-leb, lt-leb}
use Rattle.octets.specs.Digits.{hex_value}
use Rattle.shapes.specs.Length.{largest}
use Rattle.shapes.specs.Shape.{size_of}
use Rattle.shapes.proofs.Examples.{largest_message}
use Rattle.lines.specs.Lines.{longest, legible, hexadecimal}

-- "the longest trace line 538 digits" (Wish 1): a first byte, a header and the largest message
pub longest_line : longest ≡ 2 * (1 + 4 + size_of largest)
longest_line = ap (λ (k : ℕ). 2 * (1 + 4 + k)) (sym largest_message)

-- all signs are digits, or one is none
legible_all : (s : List ℕ) → ((k : ℕ) → k < length s → hex_value (get_or s k 0) < 16) → legible s ≡ true
unfolding legible
legible_all [] f = refl
legible_all (x ∷ s) f =
    let h : hex_value x < 16 = f 0 (omega arith) in
    rw (le-leb (hex_value x) 15 (omega arith)) (legible_all s (λ k l. f (suc k) (omega arith)))

and-false : (b : Bool) → (b && false) ≡ false
and-false false = refl
and-false true = refl

legible_not : (s : List ℕ) (k : ℕ) → k < length s → 16 ≤ hex_value (get_or s k 0) → legible s ≡ false
unfolding legible
legible_not [] k l h = absurd (omega arith)
legible_not (x ∷ s) zero l h = rw (lt-leb (hex_value x) 15 (omega arith))
legible_not (x ∷ s) (suc k) l h = rw (legible_not s k (omega arith) h, and-false (leb (hex_value x) 15))

pub legible_by : (s : List ℕ) (r : Bool)
    → MatchBool r (AllWithin (λ x. hex_value x < 16) s 0 (length s)) ((k : ℕ) × (k < length s) × HoldsAt (λ x. 16 ≤ hex_value x) s k) → r ≡ legible s
legible_by s true f = sym (legible_all s (λ k l. f k 0 (omega arith) l))
legible_by s false f = sym (legible_not s f.0 f.1 (f.2 0))

-- whether a line is no empty one, and even
module _ (s : List ℕ) (v : Bool) where
  pub hexadecimal_signs : (b : Bool) → eqb (length s) 0 ≡ false → v ≡ eqb (length s % 2) 0 → v ≡ true → b ≡ legible s → b ≡ hexadecimal s
  unfolding hexadecimal
  hexadecimal_signs b e f t l = rw (e, ← f, t) l

  pub hexadecimal_odd : eqb (length s) 0 ≡ false → v ≡ eqb (length s % 2) 0 → v ≡ false → v ≡ hexadecimal s
  unfolding hexadecimal
  hexadecimal_odd e f t = rw (e, ← f, t) refl

  pub hexadecimal_empty : eqb (length s) 0 ≡ true → v ≡ false → v ≡ hexadecimal s
  unfolding hexadecimal
  hexadecimal_empty e t = rw (e, t) refl
