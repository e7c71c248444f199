-- The turns of the loop that looks at digits and fillers; pairs of digits; hexadecimal digits. Assumes nothing.
use Prim.Native.Nat.{ℕ, zero, suc, ◌+◌, ◌-◌, ◌*◌, ◌/◌, ◌≤◌, ◌<◌, zero-le, suc-le-suc}
use native.Mathlib.Nat.{add-zero, mul-add-div, div-eq_of_lt, not-suc-le-zero, le_of_suc-le-suc, sub-zero, suc-sub-suc}
use native.Mathlib.Omega.{arith}
use native.Mathlib.Numerals.{add-one, sub-one}
use mathlib.Core.Path.{◌≡◌, refl, sym, ap, ap₂, ◌∙◌}
use mathlib.Core.Bool.{true, false, and-eq-true_iff, false≢true}
use mathlib.Core.List.{List, [], ◌∷◌, ◌++◌}
use lib.ListN.{length, get_or, take, drop, replicate, drop_of_length-le}
use lib.Seq.{drop-cons}
use lib.Dec.{leb, eqb, eqb-suc-zero, eqb→eq}
use borrow.Author.Tests.{eq-eqb, ne_eqb, le-leb, lt-leb, leb-true, eqb-true}
use Rattle.std.proofs.lemmas.Bool.Decides.{nat_tests}
use Rattle.octets.specs.Digits.{digits, pairs, hex_digit, hex_value}
use Rattle.octets.proofs.Table.{at}
use Rattle.octets.proofs.Parts.{Below}

step_high : (f k x : ℕ) (t : List ℕ) → (k ≡ 0 → ⊥) → 9 < x → digits f k (x ∷ t) ≡ false
unfolding digits
step_high f zero x t e h = absurd (e refl)
step_high f (suc k) x t e h = rw (lt-leb _ _ h)

step_more : (f k x : ℕ) (t : List ℕ) → (k ≡ 0 → ⊥) → x ≤ 9 → digits f k (x ∷ t) ≡ digits f (k - 1) t
unfolding digits
step_more f zero x t e h = absurd (e refl)
step_more f (suc k) x t e h = rw (sub-one, le-leb _ _ h)

-- k digits are left from place i on
module _ (f n : ℕ) (s : List ℕ) (k i : ℕ) (p : i < length s) (w : digits f n s ≡ digits f k (drop i s)) where
  pub digits_filler : k ≡ 0 → (get_or s i 0 ≡ f → ⊥) → false ≡ digits f n s
  unfolding digits
  digits_filler e h = sym (w ∙ rw (e, drop-cons s i 0) (rw (ne_eqb _ _ h)))

  pub digits_rest : k ≡ 0 → get_or s i 0 ≡ f → (j : ℕ) → j ≡ k → digits f n s ≡ digits f j (drop (i + 1) s)
  unfolding digits
  digits_rest e h j u = w ∙ rw (u, e, add-one, drop-cons s i 0) (rw (eq-eqb _ _ h))

  pub digits_high : (k ≡ 0 → ⊥) → 9 < get_or s i 0 → false ≡ digits f n s
  digits_high e h = sym (w ∙ rw (drop-cons s i 0) (step_high f k _ _ e h))

  pub digits_more : (k ≡ 0 → ⊥) → get_or s i 0 ≤ 9 → (j : ℕ) → j ≡ k - 1 → digits f n s ≡ digits f j (drop (i + 1) s)
  digits_more e h j u = w ∙ rw (u, add-one, drop-cons s i 0) (step_more f k _ _ e h)

end_of : (f k : ℕ) → digits f k [] ≡ eqb k 0
unfolding digits
end_of f zero = refl
end_of f (suc k) = sym (eqb-suc-zero k)

pub digits_end : (f n : ℕ) (s : List ℕ) (k i : ℕ) → length s ≤ i → digits f n s ≡ digits f k (drop i s) → eqb k 0 ≡ digits f n s
digits_end f n s k i p w = sym (w ∙ ap (digits f k) (drop_of_length-le s {i = i} p) ∙ end_of f k)

-- every place was looked at: the test of the length answers
pub digits_over : (f n : ℕ) (s : List ℕ) (k i : ℕ) → i ≡ length s → k ≡ n - i → digits f n s ≡ digits f k (drop i s) → leb n (length s) ≡ digits f n s
digits_over f n s k i p e w =
    let h : leb n (length s) ≡ eqb k 0 = grind (arith, nat_tests) in
    h ∙ digits_end f n s k i (omega arith) w

-- what the test says of each digit, and the test of a list of digits alone
pub digits_at : (f n : ℕ) (s : List ℕ) → digits f n s ≡ true → (i : ℕ) → i < n → get_or s i 0 ≤ 9
unfolding digits
digits_at f zero s t i h = absurd (not-suc-le-zero h)
digits_at f (suc n) [] t i h = zero-le
digits_at f (suc n) (x ∷ s) t zero h = leb-true x 9 ((and-eq-true_iff (leb x 9) (digits f n s)).0 t).0
digits_at f (suc n) (x ∷ s) t (suc i) h = digits_at f n s ((and-eq-true_iff (leb x 9) (digits f n s)).0 t).1 i (le_of_suc-le-suc h)

pub digits_all : (f : ℕ) (s : List ℕ) → ((i : ℕ) → i < length s → get_or s i 0 ≤ 9) → digits f (length s) s ≡ true
unfolding digits
digits_all f [] h = refl
digits_all f (x ∷ s) h = rw (le-leb x 9 (h zero (suc-le-suc zero-le))) (digits_all f s (λ i l. h (suc i) (suc-le-suc l)))

-- there are as many places as digits
pub digits_length : (f n : ℕ) (s : List ℕ) → digits f n s ≡ true → n ≤ length s
unfolding digits
digits_length f zero s t = zero-le
digits_length f (suc n) [] t = absurd (false≢true t)
digits_length f (suc n) (x ∷ s) t = suc-le-suc (digits_length f n s ((and-eq-true_iff (leb x 9) (digits f n s)).0 t).1)

-- the list is the digits, and then the fillers
pub digits_filled : (f n : ℕ) (s : List ℕ) → digits f n s ≡ true → s ≡ take n s ++ replicate (length s - n) f
unfolding digits
digits_filled f zero [] t = refl
digits_filled f (suc n) [] t = absurd (false≢true t)
digits_filled f zero (x ∷ s) t =
    let q = (and-eq-true_iff (eqb x f) (digits f 0 s)).0 t in
    rw sub-zero (ap₂ {C = List ℕ} (λ y l. y ∷ l) (eqb-true x f q.0) (simp sub-zero at (digits_filled f zero s q.1)))
digits_filled f (suc n) (x ∷ s) t =
    rw suc-sub-suc (ap {B = List ℕ} (λ l. x ∷ l) (digits_filled f n s ((and-eq-true_iff (leb x 9) (digits f n s)).0 t).1))

-- the same digits with other fillers after them
pub digits_refilled : (f g n k : ℕ) (s : List ℕ) → digits f n s ≡ true → digits g n (take n s ++ replicate k g) ≡ true
unfolding digits
digits_refilled f g zero zero s t = refl
digits_refilled f g zero (suc k) s t = rw (eq-eqb g g refl) (digits_refilled f g zero k s t)
digits_refilled f g (suc n) k [] t = absurd (false≢true t)
digits_refilled f g (suc n) k (x ∷ s) t =
    let q = (and-eq-true_iff (leb x 9) (digits f n s)).0 t in
    rw q.0 (digits_refilled f g n k s q.1)

-- a digit that was written is read back
pub hex_value-hex_digit : (n : ℕ) → n < 16 → hex_value (hex_digit n) ≡ n
unfolding hex_value hex_digit
hex_value-hex_digit n h =
    eqb→eq (hex_value (hex_digit n)) n (at (λ k x. eqb (hex_value (hex_digit k)) k) (replicate 16 0) tt n h)

-- pairs of digits are half as many
pub length_pairs : (base : ℕ) (s : List ℕ) (k : ℕ) → length s ≡ k + k → length (pairs base s) ≡ k
unfolding pairs
length_pairs base [] k e = let z : 0 ≡ k + k = e in omega arith
length_pairs base (x ∷ []) k e = let z : 1 ≡ k + k = e in absurd (omega arith)
length_pairs base (x ∷ y ∷ s) zero e = let z : suc (suc (length s)) ≡ 0 = e in absurd (omega arith)
length_pairs base (x ∷ y ∷ s) (suc k) e =
    let z : suc (suc (length s)) ≡ suc k + suc k = e in
    ap suc (length_pairs base s k (omega arith))

-- pairs of digits say what the digits are, in any base above them
pair_same : (base a b c d : ℕ) → b < base → d < base → base * a + b ≡ base * c + d → (a ≡ c) × (b ≡ d)
pair_same base a b c d hb hd e =
    let q : (x y : ℕ) → y < base → (base * x + y) / base ≡ x = λ x y h. mul-add-div (omega arith) x y ∙ ap (λ (k : ℕ). x + k) (div-eq_of_lt h) ∙ add-zero x in
    let h : a ≡ c = sym (q a b hb) ∙ ap (λ (k : ℕ). k / base) e ∙ q c d hd in
    let m : base * a ≡ base * c = ap (λ (k : ℕ). base * k) h in
    (h, omega arith)

pub pairs-same : (base : ℕ) (s t : List ℕ) (k : ℕ) → length s ≡ k + k → length t ≡ k + k → Below base s → Below base t → pairs base s ≡ pairs base t → s ≡ t
unfolding pairs
pairs-same base [] [] k n m hs ht e = refl
pairs-same base [] (c ∷ t) k n m hs ht e = let z : 0 ≡ k + k = n in let y : suc (length t) ≡ k + k = m in absurd (omega arith)
pairs-same base (a ∷ s) [] k n m hs ht e = let z : suc (length s) ≡ k + k = n in let y : 0 ≡ k + k = m in absurd (omega arith)
pairs-same base (a ∷ []) (c ∷ t) k n m hs ht e = let z : 1 ≡ k + k = n in absurd (omega arith)
pairs-same base (a ∷ b ∷ s) (c ∷ []) k n m hs ht e = let z : 1 ≡ k + k = m in absurd (omega arith)
pairs-same base (a ∷ b ∷ s) (c ∷ d ∷ t) zero n m hs ht e = let z : suc (suc (length s)) ≡ 0 = n in absurd (omega arith)
pairs-same base (a ∷ b ∷ s) (c ∷ d ∷ t) (suc k) n m hs ht e =
    let z : suc (suc (length s)) ≡ suc k + suc k = n in
    let y : suc (suc (length t)) ≡ suc k + suc k = m in
    let p = pair_same base a b c d (hs 1) (ht 1) (ap (λ (l : List ℕ). get_or l 0 0) e) in
    let r : s ≡ t = pairs-same base s t k (omega arith) (omega arith) (λ i. hs (suc (suc i))) (λ i. ht (suc (suc i))) (ap (drop 1) e) in
    ap₂ {C = List ℕ} (λ h l. h ∷ l) p.0 (ap₂ {C = List ℕ} (λ h l. h ∷ l) p.1 r)
