-- What a writer of script templates is to be, said by the grammar: "writing again what was read gives the same bytes", and what is written is a tree that shows
-- "the same tags, levels, lengths and data in the same order". Assumes nothing.
use Rattle.std.specs.Prelude.{ℕ, ◌+◌, ◌%◌, ◌≤◌, ◌≡◌, true, List, [], ◌∷◌, length, take, drop, None}
use Rattle.octets.specs.Numbers.{Octets}
use Rattle.octets.specs.Laid.{laid}
use Rattle.templates.specs.declared.Object.{Object}
use Rattle.templates.specs.declared.Read.{Read}
use Rattle.templates.specs.Grammar.{Templates, written, objects_of, Sound}
use Rattle.templates.specs.Reading.{reading}
use Rattle.templates.specs.Lent.{laid_objects}
use Rattle.scripts.specs.Writing.{all_lie, length_of_first, data_in, bytes_of, objects_fault, said, write_number, write_size, write_after}

-- what an object of length n says, wherever its data stand; a template has no data of its own
pub record Shown : Type 0 where
  pub tag : ℕ
  pub level : ℕ
  pub length : ℕ
  pub held : List ℕ

unfoldable pub shown : List ℕ → ℕ → Object → Shown
shown s n o = record { tag = o.tag; level = o.level; length = n; held = data_in s o }

-- what objects to be written say, a template's length computed; and what objects that were read say
unfoldable pub given : List ℕ → List Object → List Shown
given s [] = []
given s (o ∷ os) = shown s (length_of_first o os) o ∷ given s os

unfoldable pub read_back : List ℕ → List Object → List Shown
read_back s [] = []
read_back s (o ∷ os) = shown s o.length o ∷ read_back s os

-- the objects of a tree, whose data stand in what it is written as, are accepted and written as that
pub record WrittenAgain (t : Templates) : Type 0 where
  pub good : objects_fault (objects_of 1 0 t) ≡ 0
  pub lie : all_lie (written t) (objects_of 1 0 t) ≡ true
  pub again : bytes_of (written t) (objects_of 1 0 t) ≡ written t

-- objects that are written as a tree, which shows the same
pub record WrittenOf (s : List ℕ) (os : List Object) : Type 0 where
  pub tree : Templates
  pub sound : Sound tree
  pub so : bytes_of s os ≡ written tree
  pub same : given s os ≡ read_back (written tree) (objects_of 1 0 tree)

-- objects that say what a tree says, of whatever source, are accepted and written as that tree
pub record Saying (s : List ℕ) (os : List Object) (t : Templates) : Type 0 where
  pub good : objects_fault os ≡ 0
  pub so : bytes_of s os ≡ written t

pub record WritesTheGrammar : Type 0 where
  pub each_tree : (t : Templates) → Sound t → WrittenAgain t
  pub each_saying : (s : List ℕ) (os : List Object) (t : Templates) → Sound t → given s os ≡ read_back (written t) (objects_of 1 0 t) → Saying s os t
  pub accepted : (s : List ℕ) (os : List Object) → objects_fault os ≡ 0 → all_lie s os ≡ true → WrittenOf s os

-- the objects that a reading found
unfoldable pub found : Read → List Object
found r = take r.count r.objects

-- x is accepted, its objects are lent with x itself for the source: they are written as x
pub record Rewritten (x out : List ℕ) (at : ℕ) : Type 0 where
  pub number : write_number (laid_objects (found (reading x))) x out at ≡ 0
  pub size : write_size (laid_objects (found (reading x))) x out at ≡ length x
  pub buffer : write_after (laid_objects (found (reading x))) x out at ≡ laid out at x

-- what stands in the buffer at the place, as many bytes as are said to be written
unfoldable pub placed_bytes : List ℕ → List ℕ → List ℕ → ℕ → List ℕ
placed_bytes b s out at = take (write_size b s out at) (drop at (write_after b s out at))

-- it is read, says the same as the objects b, and no other byte of the buffer is another
pub record ReadAgain (b s out : List ℕ) (at : ℕ) : Type 0 where
  pub number : (reading (placed_bytes b s out at)).fault ≡ None
  pub same : read_back (placed_bytes b s out at) (found (reading (placed_bytes b s out at))) ≡ given s (said b)
  pub others : write_after b s out at ≡ laid out at (placed_bytes b s out at)

-- "Reading what we wrote gives the same objects, and writing again what was read gives the same bytes."; and whole objects whose data lie in the source are
-- written if they say what a tree says that has room
pub record BothWays : Type 0 where
  pub read_written : (b s out : List ℕ) (at : ℕ) → write_number b s out at ≡ 0 → ReadAgain b s out at
  pub written_read : (x : List ℕ) → Octets x → (reading x).fault ≡ None → (out : List ℕ) (at : ℕ) → at + length x ≤ length out → Rewritten x out at
  pub written_when : (b s out : List ℕ) (at : ℕ) (t : Templates) → Sound t → length b % 10 ≡ 0 → all_lie s (said b) ≡ true
      → given s (said b) ≡ read_back (written t) (objects_of 1 0 t) → at + length (written t) ≤ length out → write_number b s out at ≡ 0
