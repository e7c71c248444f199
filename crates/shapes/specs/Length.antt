-- The length field of a script message (01, Script messages, and Wish 1): how a length is written, and how it is read.
-- Nothing outside this module knows how many bytes the field has. Assumes nothing.
use Rattle.std.specs.Prelude.{ℕ, ◌+◌, ◌&&◌, cond, List, [], ◌∷◌, leb, eqb}

-- "Let L go to 255"
unfoldable pub largest : ℕ
largest = 255

-- the largest length that its one byte says
unfoldable pub largest_short : ℕ
largest_short = 127

-- the field that says n: "0 to 127 keeps its one byte, 128 to 255 is written 81 and then the length"
unfoldable pub length_field : ℕ → List ℕ
length_field n = cond (leb n largest_short) (n ∷ []) (0x81 ∷ n ∷ [])

-- what a field of byte a, or of a and b, says; "no other form is read": any other says 256, more than a message may have
unfoldable pub field_says : ℕ → ℕ → ℕ
field_says a b = cond (leb a largest_short) a (cond (eqb a 0x81 && leb (largest_short + 1) b) b (largest + 1))
