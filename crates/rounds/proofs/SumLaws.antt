-- A sum of two vectors word by word, with a carry. Assumes nothing.
use Rattle.std.proofs.Common.{◌≡◌, ℕ, zero, suc, ◌+◌, ◌-◌, ◌*◌, ◌/◌, ◌%◌, ◌^◌, ◌<◌, List, [], ◌∷◌, length, get_or, drop, sym, refl, ap, ◌∙◌, ap₂, add-one, arith, drop-cons}
use Rattle.rounds.specs.Sums.{int, lowest, vec, ◌⊞◌}

length-lowest : (k n : ℕ) → length (lowest k n) ≡ k
unfolding lowest
length-lowest zero n = refl
length-lowest (suc k) n = ap suc (length-lowest k (n / 2 ^ 64))

pub length-vec : (n : ℕ) → length (vec n) ≡ 8
unfolding vec
length-vec n = length-lowest 8 n

pub length_sum : (a b : List ℕ) → length (a ⊞ b) ≡ 8
unfolding ◌⊞◌
length_sum a b = length-vec (int a + int b)

-- the rests of a and b, and the carry c, give the rest of s
abbrev pub Rest : List ℕ → List ℕ → List ℕ → ℕ → ℕ → Type 0
Rest a b s i c = lowest (8 - i) (int (drop i a) + int (drop i b) + c) ≡ drop i s

pub sum_start : (a b : List ℕ) → Rest a b (a ⊞ b) 0 0
unfolding ◌⊞◌ vec
sum_start a b = let e : int a + int b + 0 ≡ int a + int b = omega arith in ap (lowest 8) e

word : (k x y n m c v e : ℕ) → v < 2 ^ 64 → v + e * 2 ^ 64 ≡ x + y + c
    → lowest (suc k) ((x + 2 ^ 64 * n) + (y + 2 ^ 64 * m) + c) ≡ v ∷ lowest k (n + m + e)
unfolding lowest
word k x y n m c v e h q =
    let t : (x + 2 ^ 64 * n) + (y + 2 ^ 64 * m) + c ≡ v + 2 ^ 64 * (n + m + e) = omega arith in
    let r : ((x + 2 ^ 64 * n) + (y + 2 ^ 64 * m) + c) % 2 ^ 64 ≡ v = omega arith in
    let d : ((x + 2 ^ 64 * n) + (y + 2 ^ 64 * m) + c) / 2 ^ 64 ≡ n + m + e = omega arith in
    ap₂ (λ (w u : ℕ). w ∷ lowest k u) r d

head_of : {x y : ℕ} {s t : List ℕ} → x ∷ s ≡ y ∷ t → x ≡ y
head_of e = cc

rest_of : {x y : ℕ} {s t : List ℕ} → x ∷ s ≡ y ∷ t → s ≡ t
rest_of e = cc

module _ (a b s : List ℕ) (i c v e : ℕ) (ha : length a ≡ 8) (hb : length b ≡ 8) (hs : length s ≡ 8) (hi : i < 8) (r : Rest a b s i c)
    (hv : v < 2 ^ 64) (q : v + e * 2 ^ 64 ≡ get_or a i 0 + get_or b i 0 + c) where
  turn : v ∷ lowest (7 - i) (int (drop (suc i) a) + int (drop (suc i) b) + e) ≡ get_or s i 0 ∷ drop (suc i) s
  unfolding int
  turn =
      let k : 8 - i ≡ suc (7 - i) = omega arith in
      sym (word (7 - i) (get_or a i 0) (get_or b i 0) (int (drop (suc i) a)) (int (drop (suc i) b)) c v e hv q)
      ∙ ap₂ (λ (x y : List ℕ). lowest (suc (7 - i)) (int x + int y + c)) (sym (drop-cons a i 0 (omega arith))) (sym (drop-cons b i 0 (omega arith)))
      ∙ ap (λ (n : ℕ). lowest n (int (drop i a) + int (drop i b) + c)) (sym k)
      ∙ r
      ∙ drop-cons s i 0 (omega arith)

  pub sum_word : v ≡ get_or s i 0
  sum_word = head_of turn

  pub sum_turn : Rest a b s (i + 1) e
  sum_turn =
      let k : 8 - (i + 1) ≡ 7 - i = omega arith in
      ap₂ (λ (n j : ℕ). lowest n (int (drop j a) + int (drop j b) + e)) k (add-one i)
      ∙ rest_of turn
      ∙ ap (λ (j : ℕ). drop j s) (sym (add-one i))

-- a number of one word
pub vec_word : (x : ℕ) → x < 2 ^ 64 → x ∷ 0 ∷ 0 ∷ 0 ∷ 0 ∷ 0 ∷ 0 ∷ 0 ∷ [] ≡ vec x
unfolding vec lowest
vec_word x h =
    let r : x ≡ x % 2 ^ 64 = omega arith in
    let d : 0 ≡ x / 2 ^ 64 = omega arith in
    ap₂ (λ (w u : ℕ). w ∷ lowest 7 u) r d
