-- Parts of a list whose elements are named one by one. Assumes nothing.
use mathlib.Core.Path.{◌≡◌, refl, sym, ap, ap₂, ◌∙◌, subst}
use Prim.Native.Nat.{ℕ, zero, suc, ◌+◌, ◌-◌, ◌≤◌, ◌<◌}
use mathlib.Core.List.{List, [], ◌∷◌, ◌++◌, map, reverse, reverse-cons, append-nil}
use native.Mathlib.Omega.{arith}
use native.Mathlib.Nat.{zero-lt-suc, add-zero, zero-add, not-suc-le-zero, le_of_suc-le-suc, sub-zero, zero-sub, suc-sub-suc}
use native.Mathlib.Numerals.{add-one}
use lib.Dec.{T, ltb, ltb→lt}
use lib.Pow.{are_bytes}
use lib.ListN.{length, take, drop, get_or, replicate, set, length-drop, drop_of_length-le}
use lib.Seq.{drop-cons, take_all, get_or-drop, drop-drop, drop_at, take-add, take-take, length-take-le, paste, paste-suc}
use Rattle.octets.specs.Numbers.{Octets}
use Rattle.octets.proofs.Table.{and_left, and_right}

-- the n elements from place i + j on
abbrev pub elements : List ℕ → ℕ → ℕ → ℕ → List ℕ
elements s i j zero = []
elements s i j (suc n) = get_or s (i + j) 0 ∷ elements s i (suc j) n

from : (s : List ℕ) (i j n : ℕ) → i + j + n ≤ length s → take n (drop (i + j) s) ≡ elements s i j n
from s i j zero h = refl
from s i j (suc n) h =
    let l : i + j < length s = omega arith in
    let e : suc (i + j) ≡ i + suc j = omega arith in
    ap (take (suc n)) (drop-cons s (i + j) 0 l)
    ∙ ap (λ (k : ℕ). get_or s (i + j) 0 ∷ take n (drop k s)) e
    ∙ ap (λ (t : List ℕ). get_or s (i + j) 0 ∷ t) (from s i (suc j) n (omega arith))

-- a part, element by element
pub elements_part : (s : List ℕ) (i n : ℕ) → i + n ≤ length s → take n (drop i s) ≡ elements s i 0 n
elements_part s i n h = ap (λ (k : ℕ). take n (drop k s)) (sym (add-zero i)) ∙ from s i 0 n (omega arith)

-- a part of a part
pub part_part : (s : List ℕ) (p n i k : ℕ) → p + n ≤ length s → i + k ≤ n → take k (drop i (take n (drop p s))) ≡ take k (drop (p + i) s)
part_part s p n i k h l =
    let t : List ℕ = drop p s in
    let e : n ≡ i + (n - i) = omega arith in
    let m : i ≤ length t = simp length-drop (omega arith) in
    ap (λ (j : ℕ). take k (drop i (take j t))) e
    ∙ ap (λ (r : List ℕ). take k (drop i r)) (take-add i (n - i) t)
    ∙ ap (take k) (drop_at (take i t) (take (n - i) (drop i t)) i (length-take-le i t m))
    ∙ take-take k (n - i) (drop i t) (omega arith)
    ∙ ap (take k) (drop-drop i p s)

-- a list of a known length, element by element
pub elements_all : (s : List ℕ) (n : ℕ) → length s ≡ n → s ≡ elements s 0 0 n
elements_all s n e = sym (take_all n s (omega arith)) ∙ elements_part s 0 n (omega arith)

pub get_d_map : (f : ℕ → ℕ) (s : List ℕ) (i : ℕ) → i < length s → get_or (map f s) i 0 ≡ f (get_or s i 0)
get_d_map f [] i h = absurd (not-suc-le-zero h)
get_d_map f (x ∷ s) zero h = refl
get_d_map f (x ∷ s) (suc i) h = get_d_map f s i (le_of_suc-le-suc h)

-- a loop that makes the list s in the array d, at element i, and when all is made
pub made_turn : (d s : List ℕ) (i x : ℕ) → i < length d → i < length s → x ≡ get_or s i 0
    → set (paste d 0 s i) i x ≡ paste d 0 s (i + 1)
made_turn d s i x hd hs e =
    ap₂ (λ (k v : ℕ). set (paste d 0 s i) k v) (sym (zero-add i)) e
    ∙ paste-suc d 0 s i 0 (omega arith) hs
    ∙ ap (paste d 0 s) (sym (add-one i))

pub made_end : (d s : List ℕ) (n : ℕ) → length d ≡ n → length s ≡ n → paste d 0 s n ≡ s
made_end d s n hd hs =
    ap₂ (λ (x y : List ℕ). x ++ y) (take_all n s (omega arith)) (drop_of_length-le d {i = 0 + n} (omega arith))
    ∙ append-nil s

-- a string by a test that antt computes
pub octets_test : (s : List ℕ) → T (are_bytes s) → Octets s
octets_test [] t i = zero-lt-suc 255
octets_test (x ∷ s) t zero = ltb→lt x 256 (and_left (ltb x 256) (are_bytes s) t)
octets_test (x ∷ s) t (suc i) = octets_test s (and_right (ltb x 256) (are_bytes s) t) i

-- parts of a string are strings
pub octets-take : (n : ℕ) (s : List ℕ) → Octets s → Octets (take n s)
octets-take zero s h i = zero-lt-suc 255
octets-take (suc n) [] h i = zero-lt-suc 255
octets-take (suc n) (x ∷ s) h zero = h zero
octets-take (suc n) (x ∷ s) h (suc i) = octets-take n s (λ j. h (suc j)) i

-- every element below a bound; octets are the case of 256
abbrev pub Below : ℕ → List ℕ → Type 0
Below b s = (i : ℕ) → get_or s i 0 < b

pub below_drop : (b n : ℕ) (s : List ℕ) → Below b s → Below b (drop n s)
below_drop b n s h i = rw get_or-drop (h (n + i))

pub below_append : (b : ℕ) (s t : List ℕ) → Below b s → Below b t → Below b (s ++ t)
below_append b [] t hs ht i = ht i
below_append b (x ∷ s) t hs ht zero = hs zero
below_append b (x ∷ s) t hs ht (suc i) = below_append b s t (λ j. hs (suc j)) ht i

pub octets-drop : (n : ℕ) (s : List ℕ) → Octets s → Octets (drop n s)
octets-drop = below_drop 256

pub octets-append : (s t : List ℕ) → Octets s → Octets t → Octets (s ++ t)
octets-append = below_append 256

octets_one : (x : ℕ) → x < 256 → Octets (x ∷ [])
octets_one x h zero = h
octets_one x h (suc i) = zero-lt-suc 255

pub octets-reverse : (s : List ℕ) → Octets s → Octets (reverse s)
octets-reverse [] h = h
octets-reverse (x ∷ s) h =
    subst Octets (sym (reverse-cons x s)) (octets-append (reverse s) (x ∷ []) (octets-reverse s (λ j. h (suc j))) (octets_one x (h zero)))

-- a run of zeros, as a buffer is made with
abbrev pub zeros : ℕ → List ℕ
zeros k = replicate k 0

pub zeros_at : (n j : ℕ) → get_or (zeros n) j 0 ≡ 0
zeros_at zero j = refl
zeros_at (suc n) zero = refl
zeros_at (suc n) (suc j) = zeros_at n j

pub below_zeros : (b n : ℕ) → 0 < b → Below b (zeros n)
below_zeros b n h i = rw zeros_at h

pub take-zeros : (k n : ℕ) → k ≤ n → take k (zeros n) ≡ zeros k
take-zeros zero n h = refl
take-zeros (suc k) zero h = absurd (not-suc-le-zero h)
take-zeros (suc k) (suc n) h = ap (λ (s : List ℕ). 0 ∷ s) (take-zeros k n (le_of_suc-le-suc h))

-- what is left of a run of one element
pub drop-replicate : (n k a : ℕ) → drop n (replicate k a) ≡ replicate (k - n) a
drop-replicate zero k a = ap (λ (j : ℕ). replicate j a) (sym (sub-zero k))
drop-replicate (suc n) zero a = ap (λ (j : ℕ). replicate j a) (sym (zero-sub (suc n)))
drop-replicate (suc n) (suc k) a = drop-replicate n k a ∙ ap (λ (j : ℕ). replicate j a) (sym (suc-sub-suc k n))

pub drop-zeros : (n k : ℕ) → drop n (zeros k) ≡ zeros (k - n)
drop-zeros n k = drop-replicate n k 0
