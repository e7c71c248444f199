-- What a hash and a code under way are made of stays below the bound of its type: words of 64 bits, words of 32, octets. Assumes nothing.
use mathlib.Core.Path.{◌≡◌, refl, ap}
use mathlib.Core.Bool.{Bool, true, false, cond}
use mathlib.Core.List.{List, [], ◌∷◌, ◌++◌, reverse}
use Prim.Native.Nat.{ℕ, zero, suc, ◌+◌, ◌*◌, ◌/◌, ◌%◌, ◌^◌, ◌<◌, ◌≤◌}
use native.Mathlib.Nat.{pow-zero, pow-succ', not-suc-le-zero, le_of_suc-le-suc}
use native.Mathlib.Omega.{arith}
use lib.Bits.{bit_xor, xor_lt}
use lib.Dec.{T, ltb, ltb→lt, lit<}
use lib.ListN.{length, take, drop, get_or, replicate, length-take}
use Rattle.octets.specs.Numbers.{Octets, le}
use Rattle.octets.proofs.Parts.{Below, octets-take, octets-drop, octets_test}
use Rattle.blocks.specs.Blocks.{taken, absorbed}
use Rattle.tables.specs.Tables.{A}
use Rattle.tables.specs.Matrix.{lin, l}
use Rattle.lps.specs.Vectors.{each, words, bytes, X, S, P, L, LPS}
use Rattle.rounds.specs.Sums.{lowest, vec, ◌⊞◌, int}
use Rattle.rounds.specs.Rounds.{E, g_over, g, constants}
use Rattle.rounds.proofs.SumLaws.{length-vec, length_sum}
use Rattle.hash.specs.declared.Core.{Core}
use Rattle.hash.specs.Hash.{start, after_block, advanced, block_step}
use Rattle.hash.proofs.Laws.{length-g}
use Rattle.gost.specs.declared.Halves.{Halves}
use Rattle.gost.specs.Gost.{halves, subkeys}
use Rattle.gost.proofs.Rounds.{Words, rounds-words}
use Rattle.cipher.specs.Code.{added, code_step}

abbrev pub Wide : List ℕ → Type 0
Wide v = Below (2 ^ 64) v

below_none : (b : ℕ) → 0 < b → Below b []
below_none b h i = h

below_one : (b x : ℕ) (s : List ℕ) → x < b → Below b s → Below b (x ∷ s)
below_one b x s h t zero = h
below_one b x s h t (suc i) = t i

each_below : (b : ℕ) (f : ℕ → ℕ) → 0 < b → ((i : ℕ) → f i < b) → Below b (each f)
each_below b f z h zero = h 0
each_below b f z h (suc zero) = h 1
each_below b f z h (suc (suc zero)) = h 2
each_below b f z h (suc (suc (suc zero))) = h 3
each_below b f z h (suc (suc (suc (suc zero)))) = h 4
each_below b f z h (suc (suc (suc (suc (suc zero))))) = h 5
each_below b f z h (suc (suc (suc (suc (suc (suc zero)))))) = h 6
each_below b f z h (suc (suc (suc (suc (suc (suc (suc zero))))))) = h 7
each_below b f z h (suc (suc (suc (suc (suc (suc (suc (suc i)))))))) = z

-- at most n octets are a number below 256 ^ n
pub le_below : (n : ℕ) (s : List ℕ) → length s ≤ n → Octets s → le s < 256 ^ n
unfolding le
le_below zero [] l h = let p : 256 ^ 0 ≡ 1 = pow-zero 256 in omega arith
le_below zero (x ∷ s) l h = absurd (not-suc-le-zero l)
le_below (suc n) [] l h =
    let p : 256 ^ suc n ≡ 256 * 256 ^ n = pow-succ' 256 n in
    let q : 0 < 256 ^ n = le_below n [] (omega arith) (λ i. lit< tt) in
    omega arith
le_below (suc n) (x ∷ s) l h =
    let p : 256 ^ suc n ≡ 256 * 256 ^ n = pow-succ' 256 n in
    let hx : x < 256 = h zero in
    let q : le s < 256 ^ n = le_below n s (le_of_suc-le-suc l) (λ i. h (suc i)) in
    omega arith

length_taken : (n : ℕ) (s : List ℕ) → length (take n s) ≤ n
length_taken n s = simp length-take (omega arith)

-- the words of octets
pub words_wide : (b : List ℕ) → Octets b → Wide (words b)
unfolding words
words_wide b h =
    each_below (2 ^ 64) (λ i. le (take 8 (drop (8 * i) b))) (lit< tt)
    (λ i. le_below 8 (take 8 (drop (8 * i) b)) (length_taken 8 (drop (8 * i) b)) (octets-take 8 (drop (8 * i) b) (octets-drop (8 * i) b h)))

X_wide : (k a : List ℕ) → Wide k → Wide a → Wide (X k a)
unfolding X
X_wide k a hk ha = each_below (2 ^ 64) (λ i. bit_xor (get_or k i 0) (get_or a i 0)) (lit< tt) (λ i. xor_lt 64 (get_or k i 0) (get_or a i 0) (hk i) (ha i))

-- a sum of rows of the matrix
all_wide : List ℕ → Bool
all_wide [] = true
all_wide (r ∷ rs) = cond (ltb r 0x10000000000000000) (all_wide rs) false

cond_both : (a b : Bool) → T (cond a b false) → T a × T b
cond_both true b t = (tt, t)
cond_both false b t = absurd t

bit_times : (b r : ℕ) → r < 2 ^ 64 → b % 2 * r < 2 ^ 64
bit_times b r h = by (b % 2) (omega arith)
  where
    by : (x : ℕ) → x < 2 → x * r < 2 ^ 64
    by zero l = omega arith
    by (suc zero) l = omega arith
    by (suc (suc x)) l = absurd (omega arith)

lin_lt : (rs : List ℕ) (b : ℕ) → T (all_wide rs) → lin rs b < 2 ^ 64
unfolding lin all_wide
lin_lt [] b t = lit< tt
lin_lt (r ∷ rs) b t =
    let p = cond_both (ltb r 0x10000000000000000) (all_wide rs) t in
    xor_lt 64 (b % 2 * r) (lin rs (b / 2)) (bit_times b r (ltb→lt r 0x10000000000000000 p.0)) (lin_lt rs (b / 2) p.1)

l_lt : (b : ℕ) → l b < 2 ^ 64
unfolding l A all_wide
l_lt b = lin_lt (reverse A) b tt

LPS_wide : (a : List ℕ) → Wide (LPS a)
unfolding LPS L words
LPS_wide a = each_below (2 ^ 64) (λ i. l (le (take 8 (drop (8 * i) (P (S (bytes a))))))) (lit< tt) (λ i. l_lt (le (take 8 (drop (8 * i) (P (S (bytes a)))))))

E_wide : (cs : List (List ℕ)) (k m : List ℕ) → Wide k → Wide m → Wide (E cs k m)
unfolding E
E_wide [] k m hk hm = X_wide k m hk hm
E_wide (c ∷ cs) k m hk hm = E_wide cs (LPS (X k c)) (LPS (X k m)) (LPS_wide (X k c)) (LPS_wide (X k m))

g_wide : (n h m : List ℕ) → Wide h → Wide m → Wide (g n h m)
unfolding g g_over
g_wide n h m hh hm =
    X_wide (X (E constants (LPS (X h n)) m) h) m (X_wide (E constants (LPS (X h n)) m) h (E_wide constants (LPS (X h n)) m (LPS_wide (X h n)) hm) hh) hm

lowest_wide : (k n : ℕ) → Wide (lowest k n)
unfolding lowest
lowest_wide zero n = below_none (2 ^ 64) (lit< tt)
lowest_wide (suc k) n = below_one (2 ^ 64) (n % 2 ^ 64) (lowest k (n / 2 ^ 64)) (omega arith) (lowest_wide k (n / 2 ^ 64))

vec_wide : (n : ℕ) → Wide (vec n)
unfolding vec
vec_wide n = lowest_wide 8 n

sum_wide : (a b : List ℕ) → Wide (a ⊞ b)
unfolding ◌⊞◌
sum_wide a b = vec_wide (int a + int b)

-- ---- a hash's words

pub record Vector (v : List ℕ) : Type 0 where
  pub eight : length v ≡ 8
  pub wide : Wide v

pub record CoreGood (c : Core) : Type 0 where
  pub h_good : Vector c.h
  pub n_good : Vector c.n
  pub s_good : Vector c.sigma

pub start_good : CoreGood start
unfolding start words
start_good =
    record {
      h_good = record { eight = refl; wide = words_wide (replicate 64 1) (octets_test (replicate 64 1) tt) };
      n_good = record { eight = length-vec 0; wide = vec_wide 0 };
      s_good = record { eight = length-vec 0; wide = vec_wide 0 };
    }

pub step_good : (c : Core) (b : List ℕ) → CoreGood c → Octets b → CoreGood (block_step c b)
unfolding block_step advanced after_block
step_good c b k o =
    record {
      h_good = record { eight = length-g c.n c.h (words b); wide = g_wide c.n c.h (words b) k.h_good.wide (words_wide b o) };
      n_good = record { eight = length_sum c.n (vec 512); wide = sum_wide c.n (vec 512) };
      s_good = record { eight = length_sum c.sigma (words b); wide = sum_wide c.sigma (words b) };
    }

-- ---- a code's halves

le_word : (s : List ℕ) → Octets s → le (take 4 s) < 2 ^ 32
le_word s h = le_below 4 (take 4 s) (length_taken 4 s) (octets-take 4 s h)

pub code_step_good : (ks : List ℕ) (s : Halves) (b : List ℕ) → Words s → Octets b → Words (code_step ks s b)
unfolding code_step added halves
code_step_good ks s b w o =
    rounds-words (ks ++ ks) _
    (record {
      low = xor_lt 32 s.n1 (le (take 4 b)) w.low (le_word b o);
      high = xor_lt 32 s.n2 (le (take 4 (drop 4 b))) w.high (le_word (drop 4 b) (octets-drop 4 b o));
    })

pub subkeys_below : (n : ℕ) (key : List ℕ) → Octets key → Below (2 ^ 32) (subkeys n key)
unfolding subkeys
subkeys_below zero key h = below_none (2 ^ 32) (lit< tt)
subkeys_below (suc n) key h = below_one (2 ^ 32) (le (take 4 key)) (subkeys n (drop 4 key)) (le_word key h) (subkeys_below n (drop 4 key) (octets-drop 4 key h))

pub length-subkeys : (n : ℕ) (key : List ℕ) → length (subkeys n key) ≡ n
unfolding subkeys
length-subkeys zero key = refl
length-subkeys (suc n) key = ap suc (length-subkeys n (drop 4 key))

-- ---- what a step keeps, the blocks of a string keep

module _ {A : Type 0} (P : A → Type 0) (size : ℕ) (step : A → List ℕ → A) (keeps : (a : A) (b : List ℕ) → P a → Octets b → P (step a b)) where
  taken_keeps : (n : ℕ) (a : A) (m : List ℕ) → P a → Octets m → P (taken size step n a m)
  unfolding taken
  taken_keeps zero a m p o = p
  taken_keeps (suc n) a m p o =
      taken_keeps n (step a (take size m)) (drop size m) (keeps a (take size m) p (octets-take size m o)) (octets-drop size m o)

  pub absorbed_keeps : (a : A) (m : List ℕ) → P a → Octets m → P (absorbed size step a m)
  unfolding absorbed
  absorbed_keeps a m p o = taken_keeps (length m / size) a m p o
