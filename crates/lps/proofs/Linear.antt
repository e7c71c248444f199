-- The map by rows goes byte by byte, so that a word goes through the matrix by one look into a table for each of its bytes. Assumes
-- nothing.
use mathlib.Core.Path.{◌≡◌, refl, sym, ap, ap₂, ◌∙◌, subst}
use mathlib.Core.List.{List, [], ◌∷◌, ◌++◌, map, reverse}
use Prim.Native.Nat.{ℕ, zero, suc, ◌+◌, ◌*◌, ◌/◌, ◌%◌, ◌^◌, ◌<◌, ◌≤◌}
use native.Mathlib.Nat.{mul-one, one-mul, zero-mul, add-zero, zero-add, add_comm, mul_comm, mul_assoc, pow-suc}
use native.Mathlib.Numerals.{add-one}
use native.Mathlib.Omega.{arith}
use lib.Arith.{lt-one}
use lib.Pow.{shr_lt}
use lib.Bits.{bit_xor, block_half, block_odd, xor_zero_r}
use lib.Dec.{lit<}
use lib.ListN.{length, get_or, take, drop, length-drop, take-append-drop}
use lib.Seq.{length-take-le, drop-drop}
use Rattle.octets.specs.Numbers.{Octets, le}
use Rattle.octets.proofs.Parts.{octets_test}
use Rattle.octets.proofs.Xor.{xor_assoc}
use Rattle.tables.specs.Tables.{pi, A}
use Rattle.tables.specs.Matrix.{lin, l, entry}
use Rattle.lps.specs.Inner.{looked}

lin_split : (rs ss : List ℕ) (q b : ℕ) → b < 2 ^ length rs → lin (rs ++ ss) (q * 2 ^ length rs + b) ≡ bit_xor (lin rs b) (lin ss q)
unfolding lin
lin_split [] ss q b h = ap (lin ss) (ap (λ (x : ℕ). q * 1 + x) (lt-one h) ∙ add-zero (q * 1) ∙ mul-one q)
lin_split (r ∷ rs) ss q b h =
    ap₂ (λ (x y : ℕ). bit_xor (x * r) (lin (rs ++ ss) y)) (block_odd q (length rs) b) (block_half q (length rs) b)
    ∙ ap (bit_xor (b % 2 * r))
    (lin_split rs ss q (b / 2) (shr_lt (length rs) 1 (subst (λ (n : ℕ). b < 2 ^ n) (sym (add-one (length rs))) h)))
    ∙ sym (xor_assoc (b % 2 * r) (lin rs (b / 2)) (lin ss q))

lin_zero : (rs : List ℕ) → lin rs 0 ≡ 0
unfolding lin
lin_zero [] = refl
lin_zero (r ∷ rs) = ap₂ bit_xor (zero-mul r) (lin_zero rs)

module _ (rs : List ℕ) (n : 8 ≤ length rs) where
  -- the lowest byte goes by the first eight rows, and the rest by the others
  lin_byte : (b q : ℕ) → b < 256 → lin rs (b + 256 * q) ≡ bit_xor (lin (take 8 rs) b) (lin (drop 8 rs) q)
  lin_byte b q h =
      ap₂ lin (sym (take-append-drop 8 rs)) (add_comm b (256 * q) ∙ ap (λ (x : ℕ). x + b) (mul_comm 256 q))
      ∙ subst (λ (k : ℕ). b < 2 ^ k → lin (take 8 rs ++ drop 8 rs) (q * 2 ^ k + b) ≡ bit_xor (lin (take 8 rs) b) (lin (drop 8 rs) q))
      (length-take-le 8 rs n) (lin_split (take 8 rs) (drop 8 rs) q b) h

  lin_low : (b : ℕ) → b < 256 → lin rs b ≡ lin (take 8 rs) b
  lin_low b h =
      sym (ap (lin rs) (add-zero b))
      ∙ lin_byte b 0 h
      ∙ ap (bit_xor (lin (take 8 rs) b)) (lin_zero (drop 8 rs))
      ∙ xor_zero_r (lin (take 8 rs) b)

  lin_high : (q : ℕ) → lin rs (256 * q) ≡ lin (drop 8 rs) q
  lin_high q =
      sym (ap (lin rs) (zero-add (256 * q)))
      ∙ lin_byte 0 q (lit< tt)
      ∙ ap (λ (x : ℕ). bit_xor x (lin (drop 8 rs) q)) (lin_zero (take 8 rs))

-- byte j goes by the eight rows from 8 j on
lin_shifted : (j : ℕ) (rs : List ℕ) → 8 * j ≤ length rs → (x : ℕ) → lin rs (256 ^ j * x) ≡ lin (drop (8 * j) rs) x
lin_shifted zero rs n x = ap (lin rs) (one-mul x)
lin_shifted (suc j) rs n x =
    let e : 8 + 8 * j ≡ 8 * suc j = omega arith in
    ap (lin rs) (ap (λ (y : ℕ). y * x) (pow-suc 256 j ∙ mul_comm (256 ^ j) 256) ∙ mul_assoc 256 (256 ^ j) x)
    ∙ lin_high rs (omega arith) (256 ^ j * x)
    ∙ lin_shifted j (drop 8 rs) (simp length-drop (omega arith)) x
    ∙ ap (λ (s : List ℕ). lin s x) (drop-drop (8 * j) 8 rs ∙ ap (λ (k : ℕ). drop k rs) e)

count : length (reverse A) ≡ 64
unfolding A
count = refl

pi_octets : Octets pi
unfolding pi
pi_octets = octets_test pi tt

looked_lin : (cs : List ℕ) (x j : ℕ) → 8 * (j + length cs) ≤ 64
    → looked x j cs ≡ bit_xor x (lin (drop (8 * j) (reverse A)) (le (map (λ c. get_or pi c 0) cs)))
unfolding le entry l
looked_lin [] x j h = sym (ap (bit_xor x) (lin_zero (drop (8 * j) (reverse A))) ∙ xor_zero_r x)
looked_lin (c ∷ cs) x j h =
    let D : List ℕ = drop (8 * j) (reverse A) in
    let q : ℕ = le (map (λ d. get_or pi d 0) cs) in
    let n : length (reverse A) ≡ 64 = count in
    let m : 8 ≤ length D = simp length-drop (omega arith) in
    let e : 8 * j + 8 ≡ 8 * suc j = omega arith in
    looked_lin cs (bit_xor x (entry j c)) (suc j) (omega arith)
    ∙ xor_assoc x (entry j c) (lin (drop (8 * suc j) (reverse A)) q)
    ∙ ap (bit_xor x)
    (ap₂ bit_xor (lin_shifted j (reverse A) (omega arith) (get_or pi c 0) ∙ lin_low D m (get_or pi c 0) (pi_octets c))
    (ap (λ (s : List ℕ). lin s q) (sym (drop-drop 8 (8 * j) (reverse A) ∙ ap (λ (k : ℕ). drop k (reverse A)) e)))
    ∙ sym (lin_byte D m (get_or pi c 0) q (pi_octets c)))

-- a word of eight bytes that went through pi
pub looked_word : (cs : List ℕ) → length cs ≡ 8 → looked 0 0 cs ≡ l (le (map (λ c. get_or pi c 0) cs))
unfolding l
looked_word cs e = looked_lin cs 0 0 (omega arith)
