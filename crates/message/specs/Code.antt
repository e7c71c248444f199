-- The code of a script message (002, clauses 4.1.1 and 4.1.2). Assumes nothing.
use Rattle.std.specs.Prelude.{ℕ, ◌+◌, ◌-◌, Bool, ◌&&◌, List, [], ◌∷◌, ◌++◌, eqb, length, replicate}
use Rattle.octets.specs.Same.{same}
use Rattle.octets.specs.Lengths.{key_fits}
use Rattle.shapes.specs.Rules.{Rules, present}
use Rattle.shapes.specs.Shape.{body_under, body_of_under, code_in_under, shape_under}
use Rattle.gost.specs.Gost.{subkeys}
use Rattle.cipher.specs.Code.{code_of}

-- 4.1.1: X is CLA, INS, P1, P2, 80 00 00 00: 8 bytes
unfoldable pub X : List ℕ → List ℕ
X header = header ++ 0x80 ∷ 0x00 ∷ 0x00 ∷ 0x00 ∷ []

-- Y is MSG, 80, 00 .. 00: 264 bytes
unfoldable pub Y : List ℕ → List ℕ
Y msg = msg ++ 0x80 ∷ replicate (264 - (length msg + 1)) 0x00

-- IM, under the SMI session key
unfoldable pub code_for : List ℕ → List ℕ → List ℕ → List ℕ
code_for key header msg = code_of (subkeys 8 key) (X header ++ Y msg)

-- MSG, IM: "the final form of the message"
unfoldable pub message_under : Rules → List ℕ → List ℕ → ℕ → List ℕ → List ℕ
message_under k key header tag d = body_under k tag d ++ code_for key header (body_under k tag d)

abbrev pub message : List ℕ → List ℕ → ℕ → List ℕ → List ℕ
message = message_under present

-- 01: a key is 32 bytes, a header 4
unfoldable pub given : List ℕ → List ℕ → Bool
given key header = key_fits key && eqb (length header) 4

-- 4.1.2: the code is computed anew and compared
unfoldable pub code_fits_under : Rules → List ℕ → List ℕ → List ℕ → Bool
code_fits_under k key header m = given key header && (shape_under k m && same (code_in_under k m) (code_for key header (body_of_under k m)))

abbrev pub code_fits : List ℕ → List ℕ → List ℕ → Bool
code_fits = code_fits_under present
