-- The bytes of a vector one by one, through S and P. Assumes nothing.
use mathlib.Core.Path.{◌≡◌, refl, sym, ap, ◌∙◌, subst}
use mathlib.Core.Bool.{Bool}
use mathlib.Core.List.{List, [], ◌∷◌, ◌++◌}
use Prim.Native.Nat.{ℕ, zero, suc, ◌+◌, ◌*◌, ◌/◌, ◌%◌, ◌^◌, ◌<◌}
use Rattle.std.proofs.Math.Nat.{div-div-eq-div-mul, pow-suc}
use Rattle.std.specs.Int.{bytes_low_first}
use native.Mathlib.Omega.{arith}
use lib.Dec.{eqb, eqb→eq, lit<}
use lib.ListN.{length, get_or, length-append, length-map, get_or-append}
use lib.Seq.{get_or-append-add}
use Rattle.octets.specs.Numbers.{Octets, le_octets}
use Rattle.octets.proofs.NumberLaws.{length-le_octets, octets-le_octets}
use Rattle.octets.proofs.Parts.{get_d_map, octets-append}
use Rattle.octets.proofs.Table.{at}
use Rattle.tables.specs.Tables.{pi}
use Rattle.lps.specs.Vectors.{bytes, tau, S, P}

pub length-bytes : (v : List ℕ) → length (bytes v) ≡ length v * 8
unfolding bytes
length-bytes [] = refl
length-bytes (w ∷ v) =
    let e : length (bytes v) ≡ length v * 8 = length-bytes v in
    length-append (le_octets 8 w) (bytes v) ∙ omega (arith, length-le_octets 8 w)

pub octets-bytes : (v : List ℕ) → Octets (bytes v)
unfolding bytes
octets-bytes [] = λ i. lit< tt
octets-bytes (w ∷ v) = octets-append (le_octets 8 w) (bytes v) (octets-le_octets 8 w) (octets-bytes v)

-- byte i of word j
pub bytes_at : (v : List ℕ) (j i : ℕ) → j < length v → i < 8 → get_or (bytes v) (j * 8 + i) 0 ≡ get_or (le_octets 8 (get_or v j 0)) i 0
unfolding bytes
bytes_at [] j i hj hi = absurd (omega arith)
bytes_at (w ∷ v) zero i hj hi =
    let e : 0 * 8 + i ≡ i = omega arith in
    ap (λ (n : ℕ). get_or (le_octets 8 w ++ bytes v) n 0) e
    ∙ get_or-append (le_octets 8 w) (bytes v) 0 i (subst (λ (n : ℕ). i < n) (sym (length-le_octets 8 w)) hi)
bytes_at (w ∷ v) (suc j) i hj hi =
    let n : length (le_octets 8 w) ≡ 8 = length-le_octets 8 w in
    let e : suc j * 8 + i ≡ length (le_octets 8 w) + (j * 8 + i) = omega arith in
    ap (λ (k : ℕ). get_or (le_octets 8 w ++ bytes v) k 0) e
    ∙ get_or-append-add (le_octets 8 w) (bytes v) (j * 8 + i) 0
    ∙ bytes_at v j i (omega arith) hi

-- tau, place by place
tau? : ℕ → ℕ → Bool
tau? k x = eqb x (k % 8 * 8 + k / 8)

tau_count : length tau ≡ 64
unfolding tau
tau_count = refl

tau_at : (k : ℕ) → k < 64 → get_or tau k 0 ≡ k % 8 * 8 + k / 8
unfolding tau? tau
tau_at k h = eqb→eq (get_or tau k 0) (k % 8 * 8 + k / 8) (at tau? tau tt k (subst (λ (n : ℕ). k < n) (sym tau_count) h))

pub length-P : (a : List ℕ) → length (P a) ≡ 64
unfolding P
length-P a = length-map tau (λ i. get_or a i 0) ∙ tau_count

-- byte j of word i of P(S(a)) is pi of byte i of word j
pub permuted_at : (a : List ℕ) (i j : ℕ) → length a ≡ 8 → i < 8 → j < 8
    → get_or (P (S (bytes a))) (8 * i + j) 0 ≡ get_or pi (get_or (le_octets 8 (get_or a j 0)) i 0) 0
unfolding P S
permuted_at a i j e hi hj =
    let n : length (bytes a) ≡ length a * 8 = length-bytes a in
    let t : (8 * i + j) % 8 * 8 + (8 * i + j) / 8 ≡ j * 8 + i = omega arith in
    get_d_map (λ k. get_or (S (bytes a)) k 0) tau (8 * i + j) (omega (arith, tau_count))
    ∙ ap (λ (k : ℕ). get_or (S (bytes a)) k 0) (tau_at (8 * i + j) (omega arith) ∙ t)
    ∙ get_d_map (λ b. get_or pi b 0) (bytes a) (j * 8 + i) (omega arith)
    ∙ ap (λ (b : ℕ). get_or pi b 0) (bytes_at a j i (omega arith) hi)

-- what std calls the bytes of a number, lowest first
low_first : (i k x : ℕ) → bytes_low_first (suc i) k x ≡ le_octets k (x / 256 ^ suc i)
unfolding le_octets
low_first i zero x = refl
low_first i (suc k) x =
    let e : x / 256 ^ suc (suc i) ≡ x / 256 ^ suc i / 256 = ap (λ (d : ℕ). x / d) (pow-suc 256 (suc i)) ∙ sym (div-div-eq-div-mul x (256 ^ suc i) 256) in
    ap (λ (s : List ℕ). x / 256 ^ suc i % 256 ∷ s) (low_first (suc i) k x ∙ ap (le_octets k) e)

pub bytes_low_first_lem : (n x : ℕ) → bytes_low_first 0 n x ≡ le_octets n x
unfolding le_octets
bytes_low_first_lem zero x = refl
bytes_low_first_lem (suc n) x = ap (λ (s : List ℕ). x % 256 ∷ s) (low_first 0 n x)
