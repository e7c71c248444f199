-- Byte k of eight words through their tables, word by word; and the words of an answer, turn by turn. Assumes nothing.
use mathlib.Core.Path.{◌≡◌, refl, sym, ap, ap₂, ◌∙◌, subst}
use mathlib.Core.Bool.{Bool, true, false, cond, not}
use mathlib.Core.Logic.{◌⊎◌, inl, inr, ◌≢◌}
use mathlib.Core.List.{List, [], ◌∷◌, ◌++◌, append-nil}
use Prim.Native.Nat.{ℕ, zero, suc, ◌+◌, ◌-◌, ◌*◌, ◌/◌, ◌%◌, ◌<◌, ◌≤◌}
use native.Mathlib.Nat.{add-zero, eq-or-lt_of_le}
use native.Mathlib.Numerals.{add-one}
use native.Mathlib.Omega.{arith}
use borrow.Author.Tests.{not-true, not-false}
use lib.Bits.{bit_xor}
use lib.Dec.{T, ltb, nltb→le, lit<, lit≤}
use lib.ListN.{length, get_or, set, drop, length-set, drop_of_length-le}
use lib.Seq.{sets, sets-eq, drop-cons, drop-drop, get_or-drop, get_or-set_same, get_or-set_other}
use Rattle.octets.specs.Numbers.{le_octets}
use Rattle.octets.proofs.Parts.{elements, elements_all}
use Rattle.tables.specs.Matrix.{entry, entry_at}
use Rattle.lps.specs.Vectors.{each, X, LPS}
use Rattle.lps.specs.Inner.{looked, byte_at, bytes_at, Eight, Shifted, Spread, first_word, Skipped}
use Rattle.lps.proofs.Each.{each_equal, each_at}
use Rattle.lps.proofs.Words.{lps_at, length-LPS}

-- the first five words of a vector, with a zero after each
abbrev apart : List ℕ → List ℕ
apart v = get_or v 0 0 ∷ 0 ∷ get_or v 1 0 ∷ 0 ∷ get_or v 2 0 ∷ 0 ∷ get_or v 3 0 ∷ 0 ∷ get_or v 4 0 ∷ 0 ∷ []

apart_at : (v : List ℕ) (j : ℕ) → j < 5 → get_or (apart v) (2 * j) 0 ≡ get_or v j 0
apart_at v zero h = refl
apart_at v (suc zero) h = refl
apart_at v (suc (suc zero)) h = refl
apart_at v (suc (suc (suc zero))) h = refl
apart_at v (suc (suc (suc (suc zero)))) h = refl
apart_at v (suc (suc (suc (suc (suc i))))) h = absurd (omega arith)

pub spread_at : (a b : List ℕ) → Spread (X a b) (apart (each (λ i. bit_xor (get_or a i 0) (get_or b i 0))))
unfolding X
spread_at a b = (refl, apart_at (each (λ i. bit_xor (get_or a i 0) (get_or b i 0))))

-- word j without its lowest four bytes
abbrev shorter : List ℕ → ℕ → List ℕ
shorter x j = set x (2 * j) (get_or x (2 * j) 0 / 256 / 256 / 256 / 256)

-- the five words, one after the other
abbrev shortened : List ℕ → List ℕ
shortened x = shorter (shorter (shorter (shorter (shorter x 0) 1) 2) 3) 4

shortened_at : (x : List ℕ) (j : ℕ) → j < 5
    → le_octets 4 (get_or (shortened (elements x 0 0 10)) (2 * j) 0) ≡ drop 4 (le_octets 8 (get_or (elements x 0 0 10) (2 * j) 0))
unfolding le_octets
shortened_at x zero h = refl
shortened_at x (suc zero) h = refl
shortened_at x (suc (suc zero)) h = refl
shortened_at x (suc (suc (suc zero))) h = refl
shortened_at x (suc (suc (suc (suc zero)))) h = refl
shortened_at x (suc (suc (suc (suc (suc i))))) h = absurd (omega arith)

module _ (t : Bool) (x : List ℕ) (n : length x ≡ 10) where
  pub skipped_none : not t ≡ true → (0 ≡ first_word t) × Skipped 0 x x
  skipped_none e = (ap first_word (sym (not-true t e)), (n, λ j l. refl))

  pub skipped_upper : not t ≡ false → (4 ≡ first_word t) × Skipped 4 x (shortened x)
  skipped_upper e = (
    ap first_word (sym (not-false t e)),
    subst (λ (y : List ℕ). Skipped 4 y (shortened y)) (sym (elements_all x 10 n)) (refl, shortened_at x),
  )

pub first_fits : (t : Bool) → first_word t ≤ 8
first_fits true = lit≤ tt
first_fits false = lit≤ tt

-- word b of table j
entry_at_lem : (j b : ℕ) → j < 8 → b < 256 → entry_at (256 * j + b) ≡ entry j b
unfolding entry_at
entry_at_lem j b hj hb = by_place (ltb (256 * j + b) 2048) refl
  where
    by_place : (t : Bool) → ltb (256 * j + b) 2048 ≡ t → cond t (entry ((256 * j + b) / 256) ((256 * j + b) % 256)) 0 ≡ entry j b
    by_place true e =
        let q : (256 * j + b) / 256 ≡ j = omega arith in
        let r : (256 * j + b) % 256 ≡ b = omega arith in
        ap₂ entry q r
    by_place false e =
        let l : 2048 ≤ 256 * j + b = nltb→le (256 * j + b) 2048 (subst (λ (t : Bool). T (not t)) (sym e) tt) in
        absurd (omega arith)

-- x, whose word j loses its lowest byte; words after the fifth lose none
abbrev pub lost : List ℕ → ℕ → List ℕ
lost x j = cond (ltb j 5) (set x (2 * j) (get_or x (2 * j) 0 / 256)) x

length_lost : (x : List ℕ) (j : ℕ) → length (lost x j) ≡ length x
length_lost x j = by_place (ltb j 5)
  where
    by_place : (t : Bool) → length (cond t (set x (2 * j) (get_or x (2 * j) 0 / 256)) x) ≡ length x
    by_place true = length-set x (2 * j) (get_or x (2 * j) 0 / 256)
    by_place false = refl

lost_other : (x : List ℕ) (j i : ℕ) → i ≢ j → get_or (lost x j) (2 * i) 0 ≡ get_or x (2 * i) 0
lost_other x j i n = by_place (ltb j 5)
  where
    by_place : (t : Bool) → get_or (cond t (set x (2 * j) (get_or x (2 * j) 0 / 256)) x) (2 * i) 0 ≡ get_or x (2 * i) 0
    by_place true = get_or-set_other x (2 * j) (2 * i) (get_or x (2 * j) 0 / 256) 0 (λ e. n (omega (arith, e)))
    by_place false = refl

lost_same : (x : List ℕ) (j : ℕ) → length x ≡ 10 → j < 5 → get_or (lost x j) (2 * j) 0 ≡ get_or x (2 * j) 0 / 256
lost_same x j n h = by_place (ltb j 5) refl
  where
    by_place : (t : Bool) → ltb j 5 ≡ t → get_or (cond t (set x (2 * j) (get_or x (2 * j) 0 / 256)) x) (2 * j) 0 ≡ get_or x (2 * j) 0 / 256
    by_place true e = get_or-set_same x (2 * j) (get_or x (2 * j) 0 / 256) 0 (omega arith)
    by_place false e =
        let l : 5 ≤ j = nltb→le j 5 (subst (λ (t : Bool). T (not t)) (sym e) tt) in
        absurd (omega arith)

pub lowest_byte : (x u v w : List ℕ) (k j : ℕ) → j < 5
    → (get_or x (2 * j) 0 % 256 ≡ byte_at x u v w k j) × (set x (2 * j) (get_or x (2 * j) 0 / 256) ≡ lost x j)
lowest_byte x u v w k j h = by_place (ltb j 5) refl
  where
    by_place : (t : Bool) → ltb j 5 ≡ t
        → (get_or x (2 * j) 0 % 256 ≡ cond t (get_or x (2 * j) 0 % 256) (get_or (get_or (u ∷ v ∷ w ∷ []) (j - 5) []) k 0))
        × (set x (2 * j) (get_or x (2 * j) 0 / 256) ≡ cond t (set x (2 * j) (get_or x (2 * j) 0 / 256)) x)
    by_place true e = (refl, refl)
    by_place false e =
        let l : 5 ≤ j = nltb→le j 5 (subst (λ (t : Bool). T (not t)) (sym e) tt) in
        absurd (omega arith)

-- j words are done
module _ (x₀ p q r : List ℕ) (k : ℕ) where
  pub record Upto (x : List ℕ) (v j : ℕ) : Type 0 where
    pub upto : j ≤ 8
    pub long : length x ≡ 10
    pub past : (i : ℕ) → i < j → i < 5 → get_or x (2 * i) 0 ≡ get_or x₀ (2 * i) 0 / 256
    pub left : (i : ℕ) → j ≤ i → get_or x (2 * i) 0 ≡ get_or x₀ (2 * i) 0
    pub sum : looked v j (drop j (bytes_at x₀ p q r k)) ≡ looked 0 0 (bytes_at x₀ p q r k)

  pub upto_start : length x₀ ≡ 10 → Upto x₀ 0 0
  upto_start e = record { upto = omega arith; long = e; past = λ i h. absurd (omega arith); left = λ i h. refl; sum = refl }

  pub upto_turn : (x x' : List ℕ) (v j b y : ℕ) → j < 8 → Upto x v j → b ≡ byte_at x p q r k j → b < 256 → x' ≡ lost x j → y ≡ entry_at (256 * j + b)
      → Upto x' (bit_xor v y) (j + 1)
  upto_turn x x' v j b y h u eb hb ex ey =
      let n : length x ≡ 10 = u.long in
      let same : get_or x (2 * j) 0 ≡ get_or x₀ (2 * j) 0 = u.left j (omega arith) in
      let e : get_or (bytes_at x₀ p q r k) j 0 ≡ b =
      each_at (byte_at x₀ p q r k) j h
      ∙ sym (eb ∙ ap (λ (z : ℕ). cond (ltb j 5) (z % 256) (get_or (get_or (p ∷ q ∷ r ∷ []) (j - 5) []) k 0)) same) in
      let d : drop j (bytes_at x₀ p q r k) ≡ b ∷ drop (j + 1) (bytes_at x₀ p q r k) =
      drop-cons (bytes_at x₀ p q r k) j 0 h ∙ ap₂ (λ (z m : ℕ). z ∷ drop m (bytes_at x₀ p q r k)) e (sym (add-one j)) in
      record {
        upto = omega arith;
        long = ap length ex ∙ length_lost x j ∙ n;
        past = λ i l. passed i (eq-or-lt_of_le (omega arith));
        left = λ i l. ap (λ (z : List ℕ). get_or z (2 * i) 0) ex ∙ lost_other x j i (λ q. absurd (omega (arith, q))) ∙ u.left i (omega arith);
        sum =
            ap₂ (λ (m z : ℕ). looked (bit_xor v z) m (drop (j + 1) (bytes_at x₀ p q r k))) (add-one j) (ey ∙ entry_at_lem j b h hb)
            ∙ ap (looked v j) (sym d)
            ∙ u.sum;
      }
    where
      passed : (i : ℕ) → (i ≡ j) ⊎ (i < j) → i < 5 → get_or x' (2 * i) 0 ≡ get_or x₀ (2 * i) 0 / 256
      passed i (inl e) l =
          ap (λ (z : List ℕ). get_or z (2 * i) 0) ex
          ∙ ap (λ (m : ℕ). get_or (lost x j) (2 * m) 0) e
          ∙ lost_same x j u.long (omega (arith, e))
          ∙ ap (λ (z : ℕ). z / 256) (u.left j (omega arith) ∙ ap (λ (m : ℕ). get_or x₀ (2 * m) 0) (sym e))
      passed i (inr o) l = ap (λ (z : List ℕ). get_or z (2 * i) 0) ex ∙ lost_other x j i (λ e. absurd (omega (arith, e))) ∙ u.past i o l

  pub upto_end : (x : List ℕ) (v j : ℕ) → 8 ≤ j → Upto x v j → (v ≡ looked 0 0 (bytes_at x₀ p q r k)) × Shifted x₀ x
  upto_end x v j h u =
      let e : j ≡ 8 = omega (arith, u.upto) in (
        ap (λ (m : ℕ). looked v m (drop m (bytes_at x₀ p q r k))) (sym e) ∙ u.sum,
        (u.long, λ i l. u.past i (omega arith) l),
      )

-- the words of the answer before word k are made of the words of y, from word t on: of the first five the lowest k bytes are gone
module _ (t : ℕ) (s₀ y : List ℕ) (n : length y ≡ 8) where
  pub record Made (s x : List ℕ) (k : ℕ) : Type 0 where
    pub upto : k ≤ 8
    pub long : length x ≡ 10
    pub words : sets s k (drop k (LPS y)) ≡ sets s₀ t (drop t (LPS y))
    pub left : (j : ℕ) → j < 5 → le_octets (8 - k) (get_or x (2 * j) 0) ≡ drop k (le_octets 8 (get_or y j 0))

  pub made_start : (x z : List ℕ) → t ≤ 8 → Spread y x → Skipped t x z → Made s₀ z t
  made_start x z l h k =
      record { upto = l; long = k.0; words = refl; left = λ j i. k.1 j i ∙ ap (λ (w : ℕ). drop t (le_octets 8 w)) (h.1 j i) }

  -- the words after the fifth
  pub record Rest (p q r : List ℕ) : Type 0 where
    pub five : p ≡ le_octets 8 (get_or y 5 0)
    pub six : q ≡ le_octets 8 (get_or y 6 0)
    pub seven : r ≡ le_octets 8 (get_or y 7 0)

  pub rest_eight : (p q r : List ℕ) → Rest p q r → Eight p q r
  unfolding le_octets
  rest_eight p q r e = (ap length e.five, ap length e.six, ap length e.seven)

  module _ (p q r s x x' : List ℕ) (k v : ℕ) (h : k < 8) (rest : Rest p q r) (d : Made s x k) where
    step : (j : ℕ) → j < 5 → get_or x (2 * j) 0 % 256 ∷ le_octets (8 - (k + 1)) (get_or x (2 * j) 0 / 256) ≡ drop k (le_octets 8 (get_or y j 0))
    unfolding le_octets
    step j l =
        let e : 8 - k ≡ suc (8 - (k + 1)) = omega arith in
        ap (λ (i : ℕ). le_octets i (get_or x (2 * j) 0)) (sym e) ∙ d.left j l

    low : (j : ℕ) → j < 5 → get_or x (2 * j) 0 % 256 ≡ get_or (le_octets 8 (get_or y j 0)) k 0
    low j l =
        ap (λ (b : List ℕ). get_or b 0 0) (step j l)
        ∙ get_or-drop k (le_octets 8 (get_or y j 0)) 0 0
        ∙ ap (λ (i : ℕ). get_or (le_octets 8 (get_or y j 0)) i 0) (add-zero k)

    byte : (j : ℕ) → j < 8 → byte_at x p q r k j ≡ get_or (le_octets 8 (get_or y j 0)) k 0
    byte zero l = low 0 (lit< tt)
    byte (suc zero) l = low 1 (lit< tt)
    byte (suc (suc zero)) l = low 2 (lit< tt)
    byte (suc (suc (suc zero))) l = low 3 (lit< tt)
    byte (suc (suc (suc (suc zero)))) l = low 4 (lit< tt)
    byte (suc (suc (suc (suc (suc zero))))) l = ap (λ (b : List ℕ). get_or b k 0) rest.five
    byte (suc (suc (suc (suc (suc (suc zero)))))) l = ap (λ (b : List ℕ). get_or b k 0) rest.six
    byte (suc (suc (suc (suc (suc (suc (suc zero))))))) l = ap (λ (b : List ℕ). get_or b k 0) rest.seven
    byte (suc (suc (suc (suc (suc (suc (suc (suc i)))))))) l = absurd (omega arith)

    pub made_next : v ≡ looked 0 0 (bytes_at x p q r k) → Shifted x x' → Made (set s k v) x' (k + 1)
    made_next ev sh =
        let m : length (LPS y) ≡ 8 = length-LPS y in
        let e : v ≡ get_or (LPS y) k 0 = ev ∙ ap (looked 0 0) (each_equal byte) ∙ sym (lps_at y n k h) in
        let d₁ : drop k (LPS y) ≡ v ∷ drop (k + 1) (LPS y) =
        drop-cons (LPS y) k 0 (omega arith) ∙ ap₂ (λ (z i : ℕ). z ∷ drop i (LPS y)) (sym e) (sym (add-one k)) in
        record {
          upto = omega arith;
          long = sh.0;
          words = ap (λ (i : ℕ). sets (set s k v) i (drop (k + 1) (LPS y))) (add-one k) ∙ ap (sets s k) (sym d₁) ∙ d.words;
          left =
              λ j l. ap (le_octets (8 - (k + 1))) (sh.1 j l)
              ∙ ap (drop 1) (step j l)
              ∙ drop-drop 1 k (le_octets 8 (get_or y j 0));
        }

  pub made_done : (s x : List ℕ) (k : ℕ) → 8 ≤ k → Made s x k → s ≡ sets s₀ t (drop t (LPS y))
  made_done s x k h d =
      let e : k ≡ 8 = omega (arith, d.upto) in
      let z : [] ≡ drop k (LPS y) = sym (drop_of_length-le (LPS y) {i = k} (omega (arith, length-LPS y))) in
      ap (sets s k) z ∙ d.words

pub rest_of : (t : ℕ) (a b p q r : List ℕ) {n : length (X a b) ≡ 8} → p ≡ le_octets 8 (bit_xor (get_or a 5 0) (get_or b 5 0)) → q ≡ le_octets 8 (bit_xor (get_or a 6 0) (get_or b 6 0))
    → r ≡ le_octets 8 (bit_xor (get_or a 7 0) (get_or b 7 0)) → Rest t a (X a b) n p q r
unfolding X
rest_of t a b p q r e f g = record { five = e; six = f; seven = g }

pub length_X : (a b : List ℕ) → length (X a b) ≡ 8
unfolding X
length_X a b = refl

-- what stands in the place of a vector
pub turned : (s v : List ℕ) → length s ≡ 8 → sets s 0 (LPS v) ≡ LPS v
turned s v n =
    let m : length (LPS v) ≡ 8 = length-LPS v in
    let z : drop (0 + length (LPS v)) s ≡ [] = drop_of_length-le s {i = 0 + length (LPS v)} (omega arith) in
    sets-eq (LPS v) s 0 (omega arith) ∙ ap (λ (t : List ℕ). LPS v ++ t) z ∙ append-nil (LPS v)
