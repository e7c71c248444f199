-- What the writer's parts say of each other. Assumes nothing.
use Rattle.std.specs.Prelude.{ℕ, ◌+◌, ◌-◌, ◌*◌, ◌/◌, ◌<◌, ◌≤◌, ◌≡◌, true, cond, List, [], ◌∷◌, ◌++◌, leb, length, take, drop, get_or}
use Rattle.octets.specs.Numbers.{be}
use Rattle.octets.specs.Laid.{laid}
use Rattle.shapes.specs.Length.{largest, length_field}
use Rattle.templates.specs.declared.Holder.{Holder}
use Rattle.templates.specs.declared.Object.{Object}
use Rattle.templates.specs.Grammar.{tag_bytes, head_size}
use Rattle.templates.specs.Lent.{object_in, objects_in}
use Rattle.templates.specs.Reading.{stands}
use Rattle.scripts.specs.Writing.{said, lies, all_lie, length_of_first, added_by, data_in, bytes_of}

-- the number r of two bytes at a place
pub record Pair (b : List ℕ) (p r : ℕ) : Type 0 where
  pub is : r ≡ be (take 2 (drop p b))
  pub small : r < 65536

-- object i of lent bytes, and the first n objects from i on
unfoldable pub at : List ℕ → ℕ → Object
at b i = object_in (take 10 (drop (i * 10) b))

unfoldable pub from : ℕ → List ℕ → ℕ → List Object
from n b i = objects_in (n - i) (drop (i * 10) b)

pub record Taken (b : List ℕ) (i : ℕ) (o : Object) : Type 0 where
  pub is : o ≡ at b i
  pub low : o.level < 65536
  pub short : o.length < 65536

pub record Headed (t n r : ℕ) : Type 0 where
  pub is : r ≡ head_size t n
  pub small : r ≤ 4

pub record Added (o : Object) (n r : ℕ) : Type 0 where
  pub is : r ≡ added_by o n
  pub small : r < 65540

-- the length of object i of the first n
unfoldable pub length_at : ℕ → List ℕ → ℕ → ℕ
length_at n b i = length_of_first (at b i) (from n b (i + 1))

-- a table of the lengths of the first n objects, from i on
pub record Within (n : ℕ) (b : List ℕ) (i : ℕ) (t : List ℕ) : Type 0 where
  pub room : length t ≡ 192
  pub few : n ≤ 192
  pub inside : n * 10 ≤ length b
  pub start : i ≤ n
  pub each : (k : ℕ) → i ≤ k → k < n → get_or t k 0 ≡ length_at n b k

-- how many are measured: a template among the first 33 that their end cuts off is longer than 255 bytes, since an object takes two bytes or more
unfoldable pub firsts : ℕ → ℕ
firsts n = cond (leb n 192) n 192

unfoldable pub Table : List ℕ → List ℕ → Type 0
Table b t = Within (firsts (length b / 10)) b 0 t

-- a tag that stands somewhere
pub record Stood (t : ℕ) : Type 0 where
  pub holder : Holder
  pub stood : stands holder t ≡ true

-- a string laid at a place, the next place and the buffer after
pub record Laid (b : List ℕ) (p : ℕ) (s : List ℕ) (r : ℕ) (e : List ℕ) : Type 0 where
  pub next : r ≡ p + length s
  pub buffer : e ≡ laid b p s

-- an object of length n, as far as its own data
unfoldable pub own_bytes : List ℕ → Object → ℕ → List ℕ
own_bytes s o n = tag_bytes o.tag ++ (length_field n ++ data_in s o)

pub record Fits (s : List ℕ) (o : Object) (n size p : ℕ) : Type 0 where
  pub tag : Stood o.tag
  pub most : n ≤ largest
  pub lie : lies s o ≡ true
  pub room : p + length (own_bytes s o n) ≤ size

-- objects that can be written: each tag stands somewhere, each length has a field, each level is one
pub data Writable : List Object → Type 0 where
  none : Writable []
  more : {o : Object} {os : List Object} → Stood o.tag → length_of_first o os ≤ largest → 1 ≤ o.level → Writable os → Writable (o ∷ os)

pub record Ready (b s t : List ℕ) (size p : ℕ) : Type 0 where
  pub table : Table b t
  pub few : length b / 10 ≤ 32
  pub can : Writable (said b)
  pub lie : all_lie s (said b) ≡ true
  pub room : p + length (bytes_of s (said b)) ≤ size
