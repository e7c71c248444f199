-- Lines, and the digits of a line (01, The clerk's trace). Assumes nothing.
use Rattle.std.specs.Prelude.{ℕ, ◌+◌, ◌*◌, ◌%◌, Bool, true, not, ◌&&◌, cond, List, [], ◌∷◌, ◌++◌, eqb, leb, length, get_or}
use Rattle.octets.specs.Digits.{hex_octet, hex_value}
use Rattle.shapes.specs.Rules.{Rules, present}

-- "the longest trace line 538 digits" (Wish 1); more is 13
abbrev pub longest : ℕ
longest = present.longest

-- of a longer line one sign more is kept
abbrev pub kept_signs : ℕ
kept_signs = longest + 1

-- "a first byte above 06 .. is 13", now 07 (Wish 4)
abbrev pub last_frame : ℕ
last_frame = present.last_frame

-- "a last line without one counts unless empty"
abbrev pub last_line : List ℕ → List (List ℕ)
last_line [] = []
last_line (x ∷ l) = (x ∷ l) ∷ []

-- "one frame a line, ended by a line feed": the lines of a text of which l is read already
unfoldable pub lines_from : List ℕ → List ℕ → List (List ℕ)
lines_from l [] = last_line l
lines_from l (b ∷ s) = cond (eqb b 10) (l ∷ lines_from [] s) (lines_from (l ++ b ∷ []) s)

abbrev pub lines : List ℕ → List (List ℕ)
lines s = lines_from [] s

-- "lower-case hexadecimal": no foreign sign
unfoldable pub legible : List ℕ → Bool
legible [] = true
legible (x ∷ l) = leb (hex_value x) 15 && legible l

-- the octet of two digits (a foreign sign, whose value is 16, counts 0, and stands in no line that is read)
unfoldable pub octet_of : ℕ → ℕ → ℕ
octet_of a b = hex_value a % 16 * 16 + hex_value b % 16

-- the octets of a line
unfoldable pub octets_of : List ℕ → List ℕ
octets_of [] = []
octets_of (a ∷ []) = []
octets_of (a ∷ b ∷ l) = octet_of a b ∷ octets_of l

-- neither an empty line, nor an odd count, nor a foreign sign
unfoldable pub hexadecimal : List ℕ → Bool
hexadecimal l = not (eqb (length l) 0) && (eqb (length l % 2) 0 && legible l)

-- "An empty line, an odd count, a foreign sign, a first byte above 06 or more than 280 digits is 13.", now 07 and 538
unfoldable pub readable_under : Rules → List ℕ → Bool
readable_under k l = leb (length l) k.longest && (hexadecimal l && leb (get_or (octets_of l) 0 0) k.last_frame)

abbrev pub readable : List ℕ → Bool
readable = readable_under present

-- the digits of octets, and the line that they make
unfoldable pub hex_text : List ℕ → List ℕ
hex_text [] = []
hex_text (b ∷ s) = hex_octet b ++ hex_text s

unfoldable pub line_for : List ℕ → List ℕ
line_for s = hex_text s ++ 10 ∷ []
