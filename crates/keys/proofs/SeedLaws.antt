-- The test of a card, test by test, and the last digits of X put behind zeros, one by one. Assumes nothing.
use mathlib.Core.Path.{◌≡◌, sym, ap, ap₂, ◌∙◌}
use mathlib.Core.Bool.{Bool, false, and-true, and-false}
use mathlib.Core.List.{List, [], ◌++◌, append-nil}
use Prim.Native.Nat.{ℕ, ◌+◌, ◌-◌, ◌≤◌, ◌<◌}
use native.Mathlib.Numerals.{add-one}
use native.Mathlib.Omega.{arith}
use borrow.Author.Tests.{le-leb, lt-leb}
use lib.ListN.{length, get_or, set, take, drop, length-drop, drop_of_length-le}
use lib.Seq.{paste, paste-suc, take_all, get_or-drop}
use Rattle.octets.specs.Digits.{digits}
use Rattle.octets.proofs.Parts.{zeros, take-zeros}
use Rattle.keys.specs.CardNumber.{card_fits, sixteen}

module _ (pan : List ℕ) (q : ℕ) where
  pub too_short : length pan < 12 → false ≡ card_fits pan q
  unfolding card_fits
  too_short h = simp (lt-leb _ _ h)

  pub too_high : 99 < q → false ≡ card_fits pan q
  unfolding card_fits
  too_high h = simp (lt-leb _ _ h, and-false)

module _ (pan : List ℕ) (q : ℕ) where
  pub card_fits_lem : 12 ≤ length pan → length pan ≤ 19 → q ≤ 99 → (t : Bool) → t ≡ digits 0 (length pan) pan → t ≡ card_fits pan q
  unfolding card_fits
  card_fits_lem l m h t e = e ∙ sym (simp (le-leb _ _ l, le-leb _ _ m, le-leb _ _ h, and-true))

-- a turn of the loop that copies
put_turn : (b m : List ℕ) (at from i : ℕ) → at + i < length b → from + i < length m
    → set (paste b at (drop from m) i) (at + i) (get_or m (from + i) 0) ≡ paste b at (drop from m) (i + 1)
put_turn b m at from i hb hm =
    ap (set (paste b at (drop from m) i) (at + i)) (sym (get_or-drop from m i 0))
    ∙ paste-suc b at (drop from m) i 0 hb (simp length-drop (omega arith))
    ∙ ap (paste b at (drop from m)) (sym (add-one i))

module _ (x : List ℕ) where
  -- a turn of the loop that puts the last digits of X behind the zeros, and when all are put
  pub sixteen_turn : (s : List ℕ) (k d ahead from i : ℕ) → s ≡ paste (zeros 16) ahead (drop from x) i → k ≡ ahead + i → d ≡ get_or x (from + i) 0
      → ahead + i < 16 → from + i < length x → set s k d ≡ paste (zeros 16) ahead (drop from x) (i + 1)
  sixteen_turn s k d ahead from i e f g l m =
      ap (λ (t : List ℕ). set t k d) e
      ∙ ap₂ (λ (j v : ℕ). set (paste (zeros 16) ahead (drop from x) i) j v) f g
      ∙ put_turn (zeros 16) x ahead from i l m

  pub sixteen_made : (i : ℕ) → 16 - length x + i ≡ 16 → paste (zeros 16) (16 - length x) (drop (length x - 16) x) i ≡ sixteen x
  unfolding sixteen
  sixteen_made i h =
      let d = drop (length x - 16) x in
      let t : take i d ≡ d = take_all i d (omega (arith, length-drop (length x - 16) x)) in
      let u : drop (16 - length x + i) (zeros 16) ≡ [] = drop_of_length-le (zeros 16) {i = 16 - length x + i} (omega arith) in
      simp (take-zeros (16 - length x) 16 (omega arith), t, u, append-nil)
