-- Vectors read from words that are lent, and words written over them. Assumes nothing.
use Rattle.std.proofs.Common.{◌≡◌, ℕ, ◌+◌, ◌-◌, ◌<◌, ◌≤◌, List, [], ◌∷◌, ◌++◌, length, get_or, take, drop, replicate, sym, ap, ◌∙◌, ap₂, arith, length-append, get_or-drop, take_all, get_or-take, take_at, drop_at, le-leb}
use borrow.Author.Tests.{lt-leb}
use lib.Bits.{bit_xor}
use lib.ListN.{length-replicate}
use lib.Seq.{paste, drop-append-add}
use Rattle.octets.proofs.Parts.{zeros, drop-zeros, elements_part}
use Rattle.lps.specs.Vectors.{X}
use Rattle.lps.proofs.Each.{each_equal, each_at}
use Rattle.rounds.specs.Lent.{vector_at, laid_words}

module _ (b : List ℕ) (p : ℕ) where
  pub vector_at_lem : p + 8 ≤ length b → vector_at b p ≡ take 8 (drop p b)
  unfolding vector_at
  vector_at_lem h = simp (le-leb _ _ h)

  pub vector_none : length b < p + 8 → replicate 8 0 ≡ vector_at b p
  unfolding vector_at
  vector_none h = simp (lt-leb _ _ h)

  pub vector_length : p + 8 ≤ length b → length (vector_at b p) ≡ 8
  vector_length h = ap length (vector_at_lem h ∙ elements_part b p 8 h)

  pub vector_word : (i : ℕ) → p + 8 ≤ length b → i < 8 → get_or b (p + i) 0 ≡ get_or (vector_at b p) i 0
  vector_word i h l = sym (ap (λ (v : List ℕ). get_or v i 0) (vector_at_lem h) ∙ get_or-take 8 (drop p b) i 0 l ∙ get_or-drop p b i 0)

  -- X takes the first eight words
  pub X-at : (m : List ℕ) → p + 8 ≤ length b → X (vector_at b p) m ≡ X (drop p b) m
  unfolding X
  X-at m h =
      ap (λ (v : List ℕ). X v m) (vector_at_lem h)
      ∙ each_equal (λ i l. ap (λ (x : ℕ). bit_xor x (get_or m i 0)) (get_or-take 8 (drop p b) i 0 l))

  module _ (w : List ℕ) where
    pub laid_in : (n : ℕ) → length w ≡ n → p + n ≤ length b → laid_words b p w ≡ paste b p w n
    unfolding laid_words
    laid_in n e h =
        let l : p + length w ≤ length b = omega arith in
        simp (le-leb _ _ l) (ap (paste b p w) e)

    pub laid_not : length b < p + length w → b ≡ laid_words b p w
    unfolding laid_words
    laid_not h = simp (lt-leb _ _ h)

-- a sum is made word by word
pub sum_turn : (a b : List ℕ) (i : ℕ) → i < 8 → bit_xor (get_or a i 0) (get_or b i 0) ≡ get_or (X a b) i 0
unfolding X
sum_turn a b i h = sym (each_at (λ j. bit_xor (get_or a j 0) (get_or b j 0)) i h)

-- the upper half of a sum
pub upper_words : (x a b : List ℕ) → x ≡ X a b → get_or x 4 0 ∷ get_or x 5 0 ∷ get_or x 6 0 ∷ get_or x 7 0 ∷ [] ≡ drop 4 (X a b)
unfolding X
upper_words x a b e = ap (λ (v : List ℕ). get_or v 4 0 ∷ get_or v 5 0 ∷ get_or v 6 0 ∷ get_or v 7 0 ∷ []) e

-- words put one after the other over zeros
pub laid_zeros : (x w : List ℕ) (p n k : ℕ) → length x ≡ p → length w ≡ n → n ≤ k → laid_words (x ++ zeros k) p w ≡ x ++ w ++ zeros (k - n)
laid_zeros x w p n k e f h =
    let z : length (x ++ zeros k) ≡ p + k = length-append x (zeros k) ∙ ap₂ (λ (i j : ℕ). i + j) e (length-replicate k 0) in
    laid_in (x ++ zeros k) p w n f (omega arith)
    ∙ ap₂ (λ (y v : List ℕ). y ++ v ++ drop (p + n) (x ++ zeros k)) (take_at x (zeros k) p e) (take_all n w (omega arith))
    ∙ ap (λ (y : List ℕ). x ++ w ++ y) (ap (λ (i : ℕ). drop (i + n) (x ++ zeros k)) (sym e) ∙ drop-append-add x (zeros k) n ∙ drop-zeros n k)

-- a vector among words
pub vector_in : (x v y : List ℕ) (p : ℕ) → length x ≡ p → length v ≡ 8 → vector_at (x ++ (v ++ y)) p ≡ v
vector_in x v y p e f =
    let m : length (x ++ (v ++ y)) ≡ length x + (length v + length y) = length-append x (v ++ y) ∙ ap (λ (i : ℕ). length x + i) (length-append v y) in
    vector_at_lem (x ++ (v ++ y)) p (omega arith) ∙ ap (take 8) (drop_at x (v ++ y) p e) ∙ take_at v y 8 f
