-- Half-bytes and bytes, what the tests of a PIN and of a block say, and the loops over half-bytes. Assumes nothing.
use mathlib.Core.Path.{◌≡◌, refl, sym, ap, ap₂, subst, ◌∙◌}
use mathlib.Core.Bool.{true, ◌&&◌, and-eq-true_iff}
use mathlib.Core.List.{List, [], ◌∷◌, ◌++◌, map}
use Prim.Native.Nat.{ℕ, zero, suc, ◌+◌, ◌-◌, ◌*◌, ◌/◌, ◌%◌, ◌≤◌, ◌<◌, suc-le-suc, zero-le}
use native.Mathlib.Omega.{arith}
use borrow.Author.Tests.{eqb-true, leb-true}
use lib.Dec.{leb, eqb}
use lib.ListN.{length, get_or, drop, replicate, length-append, length-replicate}
use Rattle.octets.specs.Numbers.{Octets}
use Rattle.octets.specs.Digits.{digits, pairs}
use Rattle.octets.proofs.DigitLaws.{digits_at}
use Rattle.octets.proofs.Parts.{elements, elements_all, drop-replicate}
use Rattle.pin.specs.PinBlock.{pin_fits, nibbles, fields, well_formed}

-- ---- half-bytes and bytes, one by one

joined_word : (s : List ℕ) (i : ℕ) → i < 8
    → 16 * (get_or (elements s 0 0 16) (2 * i) 0 % 16) + get_or (elements s 0 0 16) (2 * i + 1) 0 % 16 ≡ get_or (pairs 16 (map (λ x. x % 16) (elements s 0 0 16))) i 0
unfolding pairs
joined_word s zero h = refl
joined_word s (suc zero) h = refl
joined_word s (suc (suc zero)) h = refl
joined_word s (suc (suc (suc zero))) h = refl
joined_word s (suc (suc (suc (suc zero)))) h = refl
joined_word s (suc (suc (suc (suc (suc zero))))) h = refl
joined_word s (suc (suc (suc (suc (suc (suc zero)))))) h = refl
joined_word s (suc (suc (suc (suc (suc (suc (suc zero))))))) h = refl
joined_word s (suc (suc (suc (suc (suc (suc (suc (suc i)))))))) h = absurd (omega arith)

pub joined_at : (s : List ℕ) (i : ℕ) → length s ≡ 16 → i < 8 → 16 * (get_or s (2 * i) 0 % 16) + get_or s (2 * i + 1) 0 % 16 ≡ get_or (pairs 16 (map (λ x. x % 16) s)) i 0
joined_at s i e h =
    subst (λ (v : List ℕ). 16 * (get_or v (2 * i) 0 % 16) + get_or v (2 * i + 1) 0 % 16 ≡ get_or (pairs 16 (map (λ x. x % 16) v)) i 0) (sym (elements_all s 16 e))
    (joined_word s i h)

pub joined_length : (s : List ℕ) → length s ≡ 16 → length (pairs 16 (map (λ x. x % 16) s)) ≡ 8
unfolding pairs
joined_length s e = ap (λ (v : List ℕ). length (pairs 16 (map (λ x. x % 16) v))) (elements_all s 16 e)

abbrev Halved : List ℕ → ℕ → Type 0
Halved s i = (get_or s i 0 / 16 ≡ get_or (nibbles s) (2 * i) 0) × (get_or s i 0 % 16 ≡ get_or (nibbles s) (2 * i + 1) 0)

halved_byte : (s : List ℕ) (i : ℕ) → i < 8 → Halved (elements s 0 0 8) i
unfolding nibbles
halved_byte s zero h = (refl, refl)
halved_byte s (suc zero) h = (refl, refl)
halved_byte s (suc (suc zero)) h = (refl, refl)
halved_byte s (suc (suc (suc zero))) h = (refl, refl)
halved_byte s (suc (suc (suc (suc zero)))) h = (refl, refl)
halved_byte s (suc (suc (suc (suc (suc zero))))) h = (refl, refl)
halved_byte s (suc (suc (suc (suc (suc (suc zero)))))) h = (refl, refl)
halved_byte s (suc (suc (suc (suc (suc (suc (suc zero))))))) h = (refl, refl)
halved_byte s (suc (suc (suc (suc (suc (suc (suc (suc i)))))))) h = absurd (omega arith)

pub halved_at : (s : List ℕ) (i : ℕ) → length s ≡ 8 → i < 8 → (get_or s i 0 / 16 ≡ get_or (nibbles s) (2 * i) 0) × (get_or s i 0 % 16 ≡ get_or (nibbles s) (2 * i + 1) 0)
halved_at s i e h = subst (λ (v : List ℕ). Halved v i) (sym (elements_all s 8 e)) (halved_byte s i h)

pub halved_length : (s : List ℕ) → length s ≡ 8 → length (nibbles s) ≡ 16
unfolding nibbles
halved_length s e = ap (λ (v : List ℕ). length (nibbles v)) (elements_all s 8 e)

-- ---- what the tests say

pub record Fits (f n : ℕ) (s : List ℕ) : Type 0 where
  pub least : 4 ≤ n
  pub most : n ≤ 12
  pub all : digits f n s ≡ true

module _ (f n : ℕ) (s : List ℕ) where
  pub fits : pin_fits f n s ≡ true → Fits f n s
  unfolding pin_fits
  fits t =
      let a = (and-eq-true_iff (leb 4 n) (leb n 12 && digits f n s)).0 t in
      let b = (and-eq-true_iff (leb n 12) (digits f n s)).0 a.1 in
      record { least = leb-true 4 n a.0; most = leb-true n 12 b.0; all = b.1 }

pub record Formed (h : List ℕ) : Type 0 where
  pub control : get_or h 0 0 ≡ 2
  pub pin : Fits 15 (get_or h 1 0) (drop 2 h)

module _ (h : List ℕ) where
  pub formed : well_formed h ≡ true → Formed h
  unfolding well_formed
  formed t =
      let a = (and-eq-true_iff (eqb (get_or h 0 0) 2) (pin_fits 15 (get_or h 1 0) (drop 2 h))).0 t in
      record { control = eqb-true _ _ a.0; pin = fits 15 (get_or h 1 0) (drop 2 h) a.1 }

-- ---- half-bytes

abbrev pub Small : List ℕ → Type 0
Small s = (i : ℕ) → get_or s i 0 < 16

pub small_kept : (s : List ℕ) → Small s → map (λ x. x % 16) s ≡ s
small_kept [] h = refl
small_kept (x ∷ s) h = let l : x < 16 = h zero in ap₂ {C = List ℕ} (λ y t. y ∷ t) (omega arith) (small_kept s (λ i. h (suc i)))

small_run : (k : ℕ) → Small (replicate k 15)
small_run zero i = omega arith
small_run (suc k) zero = omega arith
small_run (suc k) (suc i) = small_run k i

small_filled : (s : List ℕ) (k : ℕ) → ((i : ℕ) → i < length s → get_or s i 0 ≤ 9) → Small (s ++ replicate k 15)
small_filled [] k h i = small_run k i
small_filled (x ∷ s) k h zero = omega (arith, h zero (suc-le-suc zero-le))
small_filled (x ∷ s) k h (suc i) = small_filled s k (λ j l. h (suc j) (suc-le-suc l)) i

module _ (pin : List ℕ) where
  pub length_fields : length pin ≤ 12 → length (fields pin) ≡ 16
  unfolding fields
  length_fields h = simp (length-append, length-replicate) (omega arith)

  pub small_fields : Fits 0 (length pin) pin → Small (fields pin)
  unfolding fields
  small_fields f zero = omega arith
  small_fields f (suc zero) = omega (arith, f.most)
  small_fields f (suc (suc i)) = small_filled pin (14 - length pin) (digits_at 0 (length pin) pin f.all) i

  -- the digits laid in
  pub fields_laid : (x : List ℕ) (k : ℕ) → x ≡ pin → k ≡ length pin → 2 ∷ length pin ∷ (x ++ drop k (replicate 14 15)) ≡ fields pin
  unfolding fields
  fields_laid x k e h =
      ap₂ {C = List ℕ} (λ s n. 2 ∷ length pin ∷ (s ++ drop n (replicate 14 15))) e h ∙ ap (λ (s : List ℕ). 2 ∷ length pin ∷ (pin ++ s)) (drop-replicate (length pin) 14 15)

-- an even number of half-bytes is read back from its bytes, which are octets
pub halves_pairs : (s : List ℕ) (k : ℕ) → length s ≡ k + k → Small s → nibbles (pairs 16 s) ≡ s
unfolding nibbles pairs
halves_pairs [] k e h = refl
halves_pairs (x ∷ []) k e h = let z : 1 ≡ k + k = e in absurd (omega arith)
halves_pairs (x ∷ y ∷ s) zero e h = let z : suc (suc (length s)) ≡ 0 = e in absurd (omega arith)
halves_pairs (x ∷ y ∷ s) (suc k) e h =
    let z : suc (suc (length s)) ≡ suc k + suc k = e in
    let l : y < 16 = h 1 in
    ap₂ {C = List ℕ} (λ a t. a ∷ t) (omega arith)
    (ap₂ {C = List ℕ} (λ a t. a ∷ t) (omega arith) (halves_pairs s k (omega arith) (λ i. h (suc (suc i)))))

pub octets-pairs : (s : List ℕ) → Small s → Octets (pairs 16 s)
unfolding pairs
octets-pairs [] h i = omega arith
octets-pairs (x ∷ []) h i = omega arith
octets-pairs (x ∷ y ∷ s) h zero = let a : x < 16 = h 0 in let b : y < 16 = h 1 in omega arith
octets-pairs (x ∷ y ∷ s) h (suc i) = octets-pairs s (λ j. h (suc (suc j))) i

pub pairs-halves : (b : List ℕ) → pairs 16 (nibbles b) ≡ b
unfolding pairs nibbles
pairs-halves [] = refl
pairs-halves (x ∷ b) = ap₂ {C = List ℕ} (λ y t. y ∷ t) (omega arith) (pairs-halves b)
