-- The shape of a script message (002, clause 4.1.1, table 1; 01, Script messages), under any rules, and under those of today. Assumes nothing.
use Rattle.std.specs.Prelude.{ℕ, ◌+◌, Bool, ◌&&◌, ◌||◌, List, [], ◌∷◌, ◌++◌, leb, eqb, length, get_or, take, drop}
use Rattle.octets.specs.Same.{same}
use Rattle.shapes.specs.Rules.{Rules, present}

-- "a tag (87 enciphered data, 81 clear)"
unfoldable pub tag_fits : ℕ → Bool
tag_fits t = eqb t 0x87 || eqb t 0x81

-- tag 8e and length 04, ahead of the code
unfoldable pub code_head : List ℕ
code_head = 0x8e ∷ 0x04 ∷ []

-- a message without its code: MSG of table 1
unfoldable pub body_under : Rules → ℕ → List ℕ → List ℕ
body_under k tag d = tag ∷ k.field (length d) ++ d ++ code_head

-- the place of n bytes of data, after the tag and the field; the size of a message with n bytes of data, and of its body
unfoldable pub place_of_under : Rules → ℕ → ℕ
place_of_under k n = 1 + length (k.field n)

unfoldable pub body_size_under : Rules → ℕ → ℕ
body_size_under k n = place_of_under k n + n + 2

unfoldable pub size_of_under : Rules → ℕ → ℕ
size_of_under k n = body_size_under k n + 4

-- the parts of a message; the field follows the tag
unfoldable pub tag_of : List ℕ → ℕ
tag_of m = get_or m 0 0

unfoldable pub length_of_under : Rules → List ℕ → ℕ
length_of_under k m = k.says (get_or m 1 0) (get_or m 2 0)

unfoldable pub data_of_under : Rules → List ℕ → List ℕ
data_of_under k m = take (length_of_under k m) (drop (place_of_under k (length_of_under k m)) m)

unfoldable pub body_of_under : Rules → List ℕ → List ℕ
body_of_under k m = take (body_size_under k (length_of_under k m)) m

unfoldable pub code_in_under : Rules → List ℕ → List ℕ
code_in_under k m = drop (body_size_under k (length_of_under k m)) m

-- "A message is a tag, L" in its field, "L data bytes, 8e, 04, and the 4-byte code. Nothing follows."
unfoldable pub shape_under : Rules → List ℕ → Bool
shape_under k m =
    tag_fits (tag_of m)
    && (leb (length_of_under k m) k.largest
    && (same (body_of_under k m) (body_under k (tag_of m) (data_of_under k m)) && eqb (length (code_in_under k m)) 4))

-- today
abbrev pub body : ℕ → List ℕ → List ℕ
body = body_under present

abbrev pub place_of : ℕ → ℕ
place_of = place_of_under present

abbrev pub body_size : ℕ → ℕ
body_size = body_size_under present

abbrev pub size_of : ℕ → ℕ
size_of = size_of_under present

abbrev pub length_of : List ℕ → ℕ
length_of = length_of_under present

abbrev pub data_of : List ℕ → List ℕ
data_of = data_of_under present

abbrev pub body_of : List ℕ → List ℕ
body_of = body_of_under present

abbrev pub code_in : List ℕ → List ℕ
code_in = code_in_under present

abbrev pub shape : List ℕ → Bool
shape = shape_under present
