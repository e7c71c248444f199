-- The rows of the substitution, packed in words, and that their entries are half-bytes. Assumes nothing.
use Rattle.std.proofs.Common.{◌≡◌, ℕ, suc, ◌+◌, ◌*◌, ◌/◌, ◌%◌, ◌^◌, ◌<◌, Bool, true, false, ◌&&◌, T, eqb, List, [], ◌∷◌, length, get_or, sym, refl, ap₂, add-zero, arith, eqb→eq}
use native.Mathlib.Nat.{pow-zero, pow-succ'}
use Rattle.octets.proofs.Table.{every, at, and_left, and_right}
use Rattle.gost.specs.Gost.{rows, substituted}

-- a row in a word: entry k is half-byte k
abbrev nibble : ℕ → ℕ → ℕ → Bool
nibble w k x = eqb x (w / 2 ^ (k * 4) % 16)

packed : (w : ℕ) (p : List ℕ) → T (every (nibble w) 0 p) → length p ≡ 16 → (n : ℕ) → get_or p (n % 16) 0 ≡ w / 2 ^ (n % 16 * 4) % 16
packed w p t e n = eqb→eq (get_or p (n % 16) 0) (w / 2 ^ (n % 16 * 4) % 16) (at (nibble w) p t (n % 16) (omega arith))

-- the words of the rows, in the source's order
abbrev pub words : List ℕ
words =
    0x1f30_7d8e_9b5a_264c ∷ 0xf0db_74e1_c5a9_3286 ∷ 0x069c_471e_daf2_853b ∷ 0xb9e3_5a07_6f4d_128c
    ∷ 0xc24b_e390_d618_a5f7 ∷ 0x0e34_187b_ac29_6fd5 ∷ 0x73ad_0b4f_c196_52e8 ∷ 0x2bc9_6af4_3850_de71 ∷ []

-- the substitution computed from the words
abbrev pub looked : List ℕ → ℕ → ℕ
looked [] x = 0
looked (w ∷ ws) x = w / 2 ^ (x % 16 * 4) % 16 + 16 * looked ws (x / 16)

-- each word holds its row
abbrev hold : List ℕ → List (List ℕ) → Bool
hold [] [] = true
hold [] (p ∷ ps) = false
hold (w ∷ ws) [] = false
hold (w ∷ ws) (p ∷ ps) = every (nibble w) 0 p && (eqb (length p) 16 && hold ws ps)

looks : (ws : List ℕ) (ps : List (List ℕ)) → T (hold ws ps) → (x : ℕ) → looked ws x ≡ substituted ps x
unfolding substituted
looks [] [] t x = refl
looks [] (p ∷ ps) t x = absurd t
looks (w ∷ ws) [] t x = absurd t
looks (w ∷ ws) (p ∷ ps) t x =
    let r : T (eqb (length p) 16 && hold ws ps) = and_right (every (nibble w) 0 p) (eqb (length p) 16 && hold ws ps) t in
    ap₂ (λ (e q : ℕ). e + 16 * q)
    (sym (packed w p (and_left (every (nibble w) 0 p) (eqb (length p) 16 && hold ws ps) t) (eqb→eq (length p) 16 (and_left (eqb (length p) 16) (hold ws ps) r)) x))
    (looks ws ps (and_right (eqb (length p) 16) (hold ws ps) r) (x / 16))

-- the words give the substitution: one computed test over all rows
pub looked_up : (x : ℕ) → looked words x ≡ substituted rows x
unfolding rows
looked_up x = looks words rows tt x

-- what is looked up in n words is below 16 ^ n
pub looked_lt : (ws : List ℕ) (x : ℕ) → looked ws x < 16 ^ length ws
looked_lt [] x = let p : 16 ^ 0 ≡ 1 = pow-zero 16 in omega arith
looked_lt (w ∷ ws) x =
    let p : 16 ^ suc (length ws) ≡ 16 * 16 ^ length ws = pow-succ' 16 (length ws) in
    let ih : looked ws (x / 16) < 16 ^ length ws = looked_lt ws (x / 16) in
    let e : w / 2 ^ (x % 16 * 4) % 16 < 16 = omega arith in
    omega arith

-- the eight entries that the source looks up, put together
module _ (x e0 e1 e2 e3 e4 e5 e6 e7 : ℕ) where
  pub entries : e0 ≡ get_or words 0 0 / 2 ^ (x % 16 * 4) % 16
      → e1 ≡ get_or words 1 0 / 2 ^ (x / 16 % 16 * 4) % 16
      → e2 ≡ get_or words 2 0 / 2 ^ (x / 16 / 16 % 16 * 4) % 16
      → e3 ≡ get_or words 3 0 / 2 ^ (x / 16 / 16 / 16 % 16 * 4) % 16
      → e4 ≡ get_or words 4 0 / 2 ^ (x / 16 / 16 / 16 / 16 % 16 * 4) % 16
      → e5 ≡ get_or words 5 0 / 2 ^ (x / 16 / 16 / 16 / 16 / 16 % 16 * 4) % 16
      → e6 ≡ get_or words 6 0 / 2 ^ (x / 16 / 16 / 16 / 16 / 16 / 16 % 16 * 4) % 16
      → e7 ≡ get_or words 7 0 / 2 ^ (x / 16 / 16 / 16 / 16 / 16 / 16 / 16 % 16 * 4) % 16
      → e0 + 16 * (e1 + 16 * (e2 + 16 * (e3 + 16 * (e4 + 16 * (e5 + 16 * (e6 + 16 * e7)))))) ≡ substituted rows x
  entries h0 h1 h2 h3 h4 h5 h6 h7 = simp (h0, h1, h2, h3, h4, h5, h6, h7) (simp add-zero at (looked_up x))
