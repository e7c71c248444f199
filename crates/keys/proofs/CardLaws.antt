-- The digits of X, the test of a card, the sixteen digits of the seed, and their pairs. Assumes nothing.
use mathlib.Core.Path.{◌≡◌, sym, ap, ap₂, ◌∙◌, subst}
use mathlib.Core.Logic.{⊎_elim}
use mathlib.Core.Bool.{true, false, ◌&&◌, and-false, and-eq-true_iff}
use mathlib.Core.List.{List, [], ◌∷◌, ◌++◌, append_assoc}
use Prim.Native.Nat.{ℕ, zero, suc, ◌+◌, ◌-◌, ◌*◌, ◌/◌, ◌%◌, ◌≤◌, ◌<◌}
use native.Mathlib.Nat.{mul-le-mul}
use native.Mathlib.Omega.{arith}
use borrow.Author.Tests.{leb-true, lt-leb}
use lib.Dec.{leb}
use lib.ListN.{length, get_or, set, take, drop, length-append, length-drop, length-replicate, get_or-append}
use lib.Seq.{get_or-append-add, drop-drop}
use borrow.Rule.Slice.PartMut.{put_mid}
use Rattle.std.proofs.lemmas.List.{drop-append-le, set-append_right}
use Rattle.octets.specs.Digits.{digits, pairs}
use Rattle.octets.proofs.DigitLaws.{digits_at, digits_all}
use Rattle.octets.proofs.Parts.{zeros, take-zeros, drop-zeros, Below, below_append, below_drop, below_zeros}
use Rattle.blocks.proofs.Laws.{lt_or_ge}
use Rattle.keys.specs.CardNumber.{card_fits, X, sixteen}

-- ---- X

pub length_X : (pan : List ℕ) (q : ℕ) → length (X pan q) ≡ length pan + 2
unfolding X
length_X pan q = length-append pan (q / 10 ∷ q % 10 ∷ [])

pub X_early : (pan : List ℕ) (q i : ℕ) → i < length pan → get_or (X pan q) i 0 ≡ get_or pan i 0
unfolding X
X_early pan q i h = get_or-append pan (q / 10 ∷ q % 10 ∷ []) 0 i h

pub X_late : (pan : List ℕ) (q i j : ℕ) → i ≡ length pan + j → get_or (X pan q) i 0 ≡ get_or (q / 10 ∷ q % 10 ∷ []) j 0
unfolding X
X_late pan q i j e = ap (λ (k : ℕ). get_or (pan ++ q / 10 ∷ q % 10 ∷ []) k 0) e ∙ get_or-append-add pan (q / 10 ∷ q % 10 ∷ []) j 0

two_small : (a b j : ℕ) → a < 10 → b < 10 → get_or (a ∷ b ∷ []) j 0 < 10
two_small a b zero ha hb = ha
two_small a b (suc zero) ha hb = hb
two_small a b (suc (suc j)) ha hb = omega arith

-- what the test of a card says
pub record Fits (pan : List ℕ) (q : ℕ) : Type 0 where
  pub least : 12 ≤ length pan
  pub most : length pan ≤ 19
  pub all : digits 0 (length pan) pan ≡ true
  pub number : q ≤ 99

pub fits : (pan : List ℕ) (q : ℕ) → card_fits pan q ≡ true → Fits pan q
unfolding card_fits
fits pan q t =
    let d = digits 0 (length pan) pan in
    let a = (and-eq-true_iff (leb 12 (length pan)) (leb (length pan) 19 && (d && leb q 99))).0 t in
    let b = (and-eq-true_iff (leb (length pan) 19) (d && leb q 99)).0 a.1 in
    let c = (and-eq-true_iff d (leb q 99)).0 b.1 in
    record {
      least = leb-true 12 (length pan) a.0;
      most = leb-true (length pan) 19 b.0;
      all = c.0;
      number = leb-true q 99 c.1;
    }

-- the test of a card, test by test
module _ (pan : List ℕ) (q : ℕ) where
  pub too_long : 19 < length pan → false ≡ card_fits pan q
  unfolding card_fits
  too_long h = simp (lt-leb _ _ h, and-false)

pub X-small : (pan : List ℕ) (q : ℕ) → Fits pan q → Below 10 (X pan q)
X-small pan q f i =
    ⊎_elim (λ l. subst (λ (x : ℕ). x < 10) (sym (X_early pan q i l)) (omega (arith, digits_at 0 (length pan) pan f.all i l)))
    (λ l. subst (λ (x : ℕ). x < 10) (sym (X_late pan q i (i - length pan) (omega arith))) (two_small (q / 10) (q % 10) (i - length pan) (omega (arith, f.number)) (omega arith)))
    (lt_or_ge i (length pan))

-- ---- the last sixteen

module _ (x : List ℕ) where
  pub length-sixteen : length (sixteen x) ≡ 16
  unfolding sixteen
  length-sixteen = simp (length-append, length-drop, length-replicate) (omega arith)

  pub sixteen_small : Below 10 x → Below 10 (sixteen x)
  unfolding sixteen
  sixteen_small h = below_append 10 (zeros (16 - length x)) (drop (length x - 16) x) (below_zeros 10 (16 - length x) (omega arith)) (below_drop 10 (length x - 16) x h)

-- the last fourteen digits of a card number, behind zeros, and the two of the sequence number
pub sixteen_laid : (pan : List ℕ) (q k : ℕ) (s : List ℕ) → k ≡ length pan - 14 → s ≡ drop k pan → (a b : ℕ) → a ≡ 14 - length s → b ≡ length s
    → {i j : ℕ} → i ≡ q / 10 → j ≡ q % 10 → set (set (put_mid a b (zeros 16) s) 14 i) 15 j ≡ sixteen (X pan q)
unfolding sixteen X
sixteen_laid pan q k s e f a b ea eb ei ej =
    let x : List ℕ = q / 10 ∷ q % 10 ∷ [] in
    let n : length (pan ++ x) ≡ length pan + 2 = length-append pan x in
    let m : length s ≡ length pan - k = ap length f ∙ length-drop k pan in
    let z : take a (zeros 16) ≡ zeros a = take-zeros a 16 (omega arith) in
    let two : 16 - (a + b) ≡ 2 = omega arith in
    let before : a ≡ 16 - length (pan ++ x) = omega arith in
    let from : k ≡ length (pan ++ x) - 16 = omega arith in
    let y : drop b (drop a (zeros 16)) ≡ zeros 2 = drop-drop b a (zeros 16) ∙ drop-zeros (a + b) 16 ∙ ap zeros two in
    let w : put_mid a b (zeros 16) s ≡ (zeros a ++ s) ++ 0 ∷ 0 ∷ [] =
    ap₂ (λ (u v : List ℕ). u ++ (s ++ v)) z y ∙ sym (append_assoc (zeros a) s (0 ∷ 0 ∷ [])) in
    let l : length (zeros a ++ s) ≡ 14 = simp (length-append, length-replicate) (omega arith) in
    ap₂ (λ (i j : ℕ). set (set (put_mid a b (zeros 16) s) 14 i) 15 j) ei ej
    ∙ ap (λ (u : List ℕ). set (set u 14 (q / 10)) 15 (q % 10)) w
    ∙ ap (λ (u : List ℕ). set u 15 (q % 10)) (set-append_right (zeros a ++ s) (0 ∷ 0 ∷ []) 14 14 (q / 10) l (omega arith))
    ∙ set-append_right (zeros a ++ s) (q / 10 ∷ 0 ∷ []) 14 15 (q % 10) l (omega arith)
    ∙ append_assoc (zeros a) s x
    ∙ ap₂ (λ (u v : List ℕ). u ++ v) (ap zeros before)
    (ap (λ (u : List ℕ). u ++ x) f ∙ sym (drop-append-le k pan x (omega arith)) ∙ ap (λ (i : ℕ). drop i (pan ++ x)) from)

pub sixteen_digits : (pan : List ℕ) (q : ℕ) → Fits pan q → digits 0 16 (sixteen (X pan q)) ≡ true
sixteen_digits pan q f =
    let x : List ℕ = X pan q in
    subst (λ (n : ℕ). digits 0 n (sixteen x) ≡ true) (length-sixteen x) (digits_all 0 (sixteen x) (λ i l. omega (arith, sixteen_small x (X-small pan q f) i)))

-- ---- pairs

pub pairs-at : (base : ℕ) (s : List ℕ) (i j : ℕ) → j ≡ 2 * i → j + 1 < length s → get_or (pairs base s) i 0 ≡ base * get_or s j 0 + get_or s (j + 1) 0
unfolding pairs
pairs-at base [] i j e h = absurd (omega arith)
pairs-at base (a ∷ []) i j e h = absurd (omega arith)
pairs-at base (a ∷ b ∷ s) zero j e h = let z : j ≡ 0 = omega arith in sym (ap (λ (k : ℕ). base * get_or (a ∷ b ∷ s) k 0 + get_or (a ∷ b ∷ s) (k + 1) 0) z)
pairs-at base (a ∷ b ∷ s) (suc i) zero e h = absurd (omega arith)
pairs-at base (a ∷ b ∷ s) (suc i) (suc zero) e h = absurd (omega arith)
pairs-at base (a ∷ b ∷ s) (suc i) (suc (suc j)) e h =
    let z : suc (suc j) + 1 ≡ suc (suc (j + 1)) = omega arith in
    pairs-at base s i j (omega arith) (omega arith) ∙ sym (ap (λ (k : ℕ). base * get_or s j 0 + get_or (a ∷ b ∷ s) k 0) z)

pub pair_fits : (base a b : ℕ) → base ≤ 16 → a ≤ 9 → b ≤ 9 → (base * a ≤ 144) × (base * a + b ≤ 153)
pair_fits base a b hb ha h = let m : base * a ≤ 16 * 9 = mul-le-mul hb ha in (omega arith, omega arith)
