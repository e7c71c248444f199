-- Blocks as octets and as halves. Assumes nothing.
use Rattle.std.proofs.Common.{◌≡◌, ℕ, suc, zero, ◌+◌, ◌*◌, ◌^◌, ◌<◌, List, ◌++◌, length, take, drop, get_or, refl, ap, ◌∙◌, subst, ap₂, arith, length-drop, take-append-drop, length-take-le, take_all, drop-drop}
use native.Mathlib.Nat.{add_comm}
use Rattle.octets.specs.Numbers.{Octets, le, le_octets}
use Rattle.octets.proofs.Parts.{octets-take, octets-drop}
use Rattle.octets.proofs.NumberLaws.{le-le_octets, le_octets-le, le_lt}
use Rattle.gost.specs.declared.Halves.{Halves}
use Rattle.gost.specs.Gost.{halves, block, subkeys}
use Rattle.gost.proofs.Rounds.{Words}

-- the subkeys, one by one
pub get_or-subkeys : (n i : ℕ) (key : List ℕ) → i < n → get_or (subkeys n key) i 0 ≡ le (take 4 (drop (i * 4) key))
unfolding subkeys
get_or-subkeys zero i key h = absurd (omega arith)
get_or-subkeys (suc n) zero key h = refl
get_or-subkeys (suc n) (suc i) key h =
    let e : i * 4 + 4 ≡ suc i * 4 = omega arith in
    get_or-subkeys n i (drop 4 key) (omega arith) ∙ ap (λ (s : List ℕ). le (take 4 s)) (drop-drop (i * 4) 4 key) ∙ ap (λ (k : ℕ). le (take 4 (drop k key))) (add_comm 4 (i * 4) ∙ e)

pub length-subkeys : (n : ℕ) (key : List ℕ) → length (subkeys n key) ≡ n
unfolding subkeys
length-subkeys zero key = refl
length-subkeys (suc n) key = ap suc (length-subkeys n (drop 4 key))

pub length-block : (s : Halves) → length (block s) ≡ 8
unfolding block le_octets
length-block s = refl

-- words are written and read back
pub halves_block : (s : Halves) → Words s → halves (block s) ≡ s
unfolding halves block le_octets
halves_block s w =
    ap₂ (λ (x y : ℕ). record { n1 = x; n2 = y }) (le-le_octets 4 s.n1 w.low) (le-le_octets 4 s.n2 w.high)

-- a block's octets are read and written back
module _ (b : List ℕ) (e : length b ≡ 8) (o : Octets b) where
  low : length (take 4 b) ≡ 4
  low = length-take-le 4 b (omega arith)

  all : take 4 (drop 4 b) ≡ drop 4 b
  all = take_all 4 (drop 4 b) (simp length-drop (omega arith))

  high : length (take 4 (drop 4 b)) ≡ 4
  high = ap length all ∙ length-drop 4 b ∙ omega arith

  word : (w : List ℕ) → length w ≡ 4 → Octets w → le w < 2 ^ 32
  word w l h = subst (λ (n : ℕ). le w < 256 ^ n) l (le_lt w h)

  written : (w : List ℕ) → length w ≡ 4 → Octets w → le_octets 4 (le w) ≡ w
  written w l h = subst (λ (n : ℕ). le_octets n (le w) ≡ w) l (le_octets-le w h)

  pub halves_words : Words (halves b)
  unfolding halves
  halves_words =
      record {
        low = word (take 4 b) low (octets-take 4 b o);
        high = word (take 4 (drop 4 b)) high (octets-take 4 (drop 4 b) (octets-drop 4 b o));
      }

  pub block_halves : block (halves b) ≡ b
  unfolding block halves
  block_halves =
      ap₂ (λ (x y : List ℕ). x ++ y) (written (take 4 b) low (octets-take 4 b o))
      (written (take 4 (drop 4 b)) high (octets-take 4 (drop 4 b) (octets-drop 4 b o)) ∙ all)
      ∙ take-append-drop 4 b
