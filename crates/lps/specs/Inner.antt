-- What private functions of this crate promise each other. Assumes nothing.
use Rattle.std.specs.Prelude.{◌≡◌, Bool, cond, List, [], ◌∷◌, ℕ, suc, ◌-◌, ◌*◌, ◌/◌, ◌%◌, ◌<◌, ltb, length, get_or, drop}
use Rattle.std.specs.Int.Bits.{bit_xor}
use Rattle.octets.specs.Numbers.{le_octets}
use Rattle.tables.specs.Matrix.{entry}
use Rattle.lps.specs.Vectors.{each}

-- the words of the bytes of cs, from table j on, added to x
abbrev pub looked : ℕ → ℕ → List ℕ → ℕ
looked x j [] = x
looked x j (c ∷ cs) = looked (bit_xor x (entry j c)) (suc j) cs

-- byte k of word j: x has the first five words at its even places, without their lowest k bytes; u, v and w are the bytes of the other three
abbrev pub byte_at : List ℕ → List ℕ → List ℕ → List ℕ → ℕ → ℕ → ℕ
byte_at x u v w k j = cond (ltb j 5) (get_or x (2 * j) 0 % 256) (get_or (get_or (u ∷ v ∷ w ∷ []) (j - 5) []) k 0)

-- byte k of each word
abbrev pub bytes_at : List ℕ → List ℕ → List ℕ → List ℕ → ℕ → List ℕ
bytes_at x u v w k = each (byte_at x u v w k)

-- eight bytes each
abbrev pub Eight : List ℕ → List ℕ → List ℕ → Type 0
Eight u v w = (length u ≡ 8) × (length v ≡ 8) × (length w ≡ 8)

-- the first five words without their lowest bytes
abbrev pub Shifted : List ℕ → List ℕ → Type 0
Shifted x y = (length y ≡ 10) × ((j : ℕ) → j < 5 → get_or y (2 * j) 0 ≡ get_or x (2 * j) 0 / 256)

-- the first five words of a vector at the even places
abbrev pub Spread : List ℕ → List ℕ → Type 0
Spread v x = (length x ≡ 10) × ((j : ℕ) → j < 5 → get_or x (2 * j) 0 ≡ get_or v j 0)

-- the first word of the answer that is asked for
abbrev pub first_word : Bool → ℕ
first_word upper = cond upper 4 0

-- the first five words without their lowest k bytes
abbrev pub Skipped : ℕ → List ℕ → List ℕ → Type 0
Skipped k x y = (length y ≡ 10) × ((j : ℕ) → j < 5 → le_octets (8 - k) (get_or y (2 * j) 0) ≡ drop k (le_octets 8 (get_or x (2 * j) 0)))
