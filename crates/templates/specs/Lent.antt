-- Objects as bytes that a caller lends: ten each, tag, level and length of two, and then the place of four, highest byte first. Assumes nothing.
use Rattle.std.specs.Prelude.{ℕ, zero, suc, List, [], ◌∷◌, ◌++◌, take, drop}
use Rattle.octets.specs.Numbers.{be, be_octets}
use Rattle.templates.specs.declared.Object.{Object}

unfoldable pub object_bytes : Object → List ℕ
object_bytes o = be_octets 2 o.tag ++ (be_octets 2 o.level ++ (be_octets 2 o.length ++ be_octets 4 o.place))

unfoldable pub object_in : List ℕ → Object
object_in b = record { tag = be (take 2 b); level = be (take 2 (drop 2 b)); length = be (take 2 (drop 4 b)); place = be (take 4 (drop 6 b)) }

-- one after the other
unfoldable pub laid_objects : List Object → List ℕ
laid_objects [] = []
laid_objects (o ∷ os) = object_bytes o ++ laid_objects os

-- the first k that bytes say
unfoldable pub objects_in : ℕ → List ℕ → List Object
objects_in zero b = []
objects_in (suc k) b = object_in (take 10 b) ∷ objects_in k (drop 10 b)
