-- Two examples of Y packed, and the one of annex A of 003 for pairs of digits. Assumes nothing.
use mathlib.Core.Path.{◌≡◌, refl}
use mathlib.Core.List.{[], ◌∷◌}
use Rattle.octets.specs.Digits.{pairs}
use Rattle.keys.specs.CardNumber.{X, sixteen, packed_y}

-- the card of P2 packed, and the card of 003 A.2 (6789012345673, sequence 93), whose printed master keys come of this seed
pub P2_packed : packed_y (1 ∷ 2 ∷ 3 ∷ 4 ∷ 5 ∷ 6 ∷ 7 ∷ 8 ∷ 9 ∷ 0 ∷ 1 ∷ 2 ∷ []) 0 ≡ 0x00 ∷ 0x12 ∷ 0x34 ∷ 0x56 ∷ 0x78 ∷ 0x90 ∷ 0x12 ∷ 0x00 ∷ []
unfolding packed_y X sixteen pairs
P2_packed = refl

pub A2_packed : packed_y (6 ∷ 7 ∷ 8 ∷ 9 ∷ 0 ∷ 1 ∷ 2 ∷ 3 ∷ 4 ∷ 5 ∷ 6 ∷ 7 ∷ 3 ∷ []) 93 ≡ 0x06 ∷ 0x78 ∷ 0x90 ∷ 0x12 ∷ 0x34 ∷ 0x56 ∷ 0x73 ∷ 0x93 ∷ []
unfolding packed_y X sixteen pairs
A2_packed = refl

-- annex A of 003: "1213456789" as pair numbers
pub annex_A : pairs 10 (1 ∷ 2 ∷ 1 ∷ 3 ∷ 4 ∷ 5 ∷ 6 ∷ 7 ∷ 8 ∷ 9 ∷ []) ≡ 0x0c ∷ 0x0d ∷ 0x2d ∷ 0x43 ∷ 0x59 ∷ []
unfolding pairs
annex_A = refl
