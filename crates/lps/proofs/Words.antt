-- LPS word by word, as the tables give it. Assumes nothing.
use mathlib.Core.Path.{◌≡◌, refl, sym, ap, ◌∙◌}
use mathlib.Core.List.{List, map}
use Prim.Native.Nat.{ℕ, ◌*◌, ◌<◌}
use native.Mathlib.Omega.{arith}
use lib.ListN.{length, get_or, take, drop}
use Rattle.octets.specs.Numbers.{le, le_octets}
use Rattle.octets.proofs.Parts.{elements_part}
use Rattle.tables.specs.Tables.{pi}
use Rattle.tables.specs.Matrix.{l}
use Rattle.lps.specs.Vectors.{each, bytes, words, S, P, L, LPS}
use Rattle.lps.specs.Inner.{looked}
use Rattle.lps.proofs.Each.{each_equal, each_at}
use Rattle.lps.proofs.Linear.{looked_word}
use Rattle.lps.proofs.Bytes.{length-P, permuted_at}

-- byte i of each word
abbrev pub column : List ℕ → ℕ → List ℕ
column a i = map (λ w. get_or (le_octets 8 w) i 0) (each (λ j. get_or a j 0))

module _ (a : List ℕ) (n : length a ≡ 8) where
  permuted_column : (i : ℕ) → i < 8 → take 8 (drop (8 * i) (P (S (bytes a)))) ≡ map (λ c. get_or pi c 0) (column a i)
  permuted_column i h =
      let m : length (P (S (bytes a))) ≡ 64 = length-P (S (bytes a)) in
      elements_part (P (S (bytes a))) (8 * i) 8 (omega arith) ∙ each_equal (λ j. permuted_at a i j n h)

  word_at : (i : ℕ) → i < 8 → looked 0 0 (column a i) ≡ l (le (take 8 (drop (8 * i) (P (S (bytes a))))))
  word_at i h = looked_word (column a i) refl ∙ ap (λ (s : List ℕ). l (le s)) (sym (permuted_column i h))

  -- word i of LPS
  pub lps_at : (i : ℕ) → i < 8 → get_or (LPS a) i 0 ≡ looked 0 0 (column a i)
  unfolding LPS L words
  lps_at i h = each_at (λ i. l (le (take 8 (drop (8 * i) (P (S (bytes a))))))) i h ∙ sym (word_at i h)

pub length-LPS : (a : List ℕ) → length (LPS a) ≡ 8
unfolding LPS L words
length-LPS a = refl
