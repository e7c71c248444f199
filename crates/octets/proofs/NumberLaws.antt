-- Numbers and their octets undo each other, at every width. Assumes nothing.
use mathlib.Core.Path.{◌≡◌, refl, sym, ap, ap₂, ◌∙◌, subst}
use Prim.Native.Nat.{ℕ, zero, suc, ◌+◌, ◌*◌, ◌/◌, ◌%◌, ◌^◌, ◌<◌}
use mathlib.Core.List.{List, [], ◌∷◌, reverse, reverse-reverse}
use native.Mathlib.Nat.{zero-lt-suc, pow-zero, pow-succ', add_comm, suc-mul}
use native.Mathlib.Omega.{arith}
use lib.ListN.{length, get_or, length-reverse}
use lib.Pow.{shr-shr}
use Rattle.octets.specs.Numbers.{Octets, le, le_octets, be, be_octets}
use Rattle.octets.proofs.Parts.{octets-reverse}

pub length-le_octets : (n x : ℕ) → length (le_octets n x) ≡ n
unfolding le_octets
length-le_octets zero x = refl
length-le_octets (suc n) x = ap suc (length-le_octets n (x / 256))

pub octets-le_octets : (n x : ℕ) → Octets (le_octets n x)
unfolding le_octets
octets-le_octets zero x i = zero-lt-suc 255
octets-le_octets (suc n) x zero = omega arith
octets-le_octets (suc n) x (suc i) = octets-le_octets n (x / 256) i

-- octet i of a number
pub get_or-le_octets : (n x i : ℕ) → i < n → get_or (le_octets n x) i 0 ≡ x / 2 ^ (i * 8) % 256
unfolding le_octets
get_or-le_octets zero x i h = absurd (omega arith)
get_or-le_octets (suc n) x zero h = ap (λ (k : ℕ). k % 256) (one x)
  where
    one : (k : ℕ) → k ≡ k / 1
    one k = omega arith
get_or-le_octets (suc n) x (suc i) h =
    get_or-le_octets n (x / 256) i (omega arith)
    ∙ ap (λ (k : ℕ). k % 256) (shr-shr x 8 (i * 8) ∙ ap (λ (k : ℕ). x / 2 ^ k) (add_comm 8 (i * 8) ∙ sym (suc-mul i 8)))

-- a number that fits n octets is read back
pub le-le_octets : (n x : ℕ) → x < 256 ^ n → le (le_octets n x) ≡ x
unfolding le le_octets
le-le_octets zero x h = let p : 256 ^ 0 ≡ 1 = pow-zero 256 in omega arith
le-le_octets (suc n) x h =
    let p : 256 ^ suc n ≡ 256 * 256 ^ n = pow-succ' 256 n in
    let e : le (le_octets n (x / 256)) ≡ x / 256 = le-le_octets n (x / 256) (omega arith) in
    omega arith

-- a string is written back
pub le_octets-le : (s : List ℕ) → Octets s → le_octets (length s) (le s) ≡ s
unfolding le le_octets
le_octets-le [] h = refl
le_octets-le (b ∷ s) h =
    let hb : b < 256 = h zero in
    let p : (b + 256 * le s) % 256 ≡ b = omega arith in
    let q : (b + 256 * le s) / 256 ≡ le s = omega arith in
    ap₂ (λ (x : ℕ) (l : List ℕ). x ∷ l) p (ap (le_octets (length s)) q ∙ le_octets-le s (λ i. h (suc i)))

-- a string of n octets is a number below 256 ^ n
pub le_lt : (s : List ℕ) → Octets s → le s < 256 ^ length s
unfolding le
le_lt [] h = let p : 256 ^ 0 ≡ 1 = pow-zero 256 in omega arith
le_lt (b ∷ s) h =
    let p : 256 ^ suc (length s) ≡ 256 * 256 ^ length s = pow-succ' 256 (length s) in
    let hb : b < 256 = h zero in
    let ih : le s < 256 ^ length s = le_lt s (λ i. h (suc i)) in
    omega arith

-- the same, most significant octet first
pub length-be_octets : (n x : ℕ) → length (be_octets n x) ≡ n
unfolding be_octets
length-be_octets n x = length-reverse (le_octets n x) ∙ length-le_octets n x

pub octets-be_octets : (n x : ℕ) → Octets (be_octets n x)
unfolding be_octets
octets-be_octets n x = octets-reverse (le_octets n x) (octets-le_octets n x)

pub be-be_octets : (n x : ℕ) → x < 256 ^ n → be (be_octets n x) ≡ x
unfolding be be_octets
be-be_octets n x h = ap le (reverse-reverse (le_octets n x)) ∙ le-le_octets n x h

pub be_octets-be : (s : List ℕ) → Octets s → be_octets (length s) (be s) ≡ s
unfolding be be_octets
be_octets-be s h =
    ap (λ (n : ℕ). reverse (le_octets n (le (reverse s)))) (sym (length-reverse s))
    ∙ ap reverse (le_octets-le (reverse s) (octets-reverse s h))
    ∙ reverse-reverse s

pub be_lt : (s : List ℕ) → Octets s → be s < 256 ^ length s
unfolding be
be_lt s h = subst (λ (n : ℕ). le (reverse s) < 256 ^ n) (length-reverse s) (le_lt (reverse s) (octets-reverse s h))
