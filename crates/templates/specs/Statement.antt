-- What a reader of script templates is to be, said by the grammar alone: "reading what we wrote gives the same objects", and there are no two readings of one
-- script. Assumes nothing.
use Rattle.std.specs.Prelude.{ℕ, ◌-◌, ◌≡◌, List, ◌++◌, length, replicate, None}
use Rattle.octets.specs.Numbers.{Octets}
use Rattle.templates.specs.declared.Object.{Object}
use Rattle.templates.specs.declared.Read.{Read}
use Rattle.templates.specs.Grammar.{Templates, written, objects_of, Sound}
use Rattle.templates.specs.Reading.{no_object}

-- an answer with objects, and nothing at fault
unfoldable pub answered : List Object → Read
answered os = record { objects = os ++ replicate (32 - length os) no_object; count = length os; fault = None }

-- a tree that can be written, and is written so
pub record WrittenAs (t : Templates) (x : List ℕ) : Type 0 where
  pub sound : Sound t
  pub so : written t ≡ x

pub record Derives (x : List ℕ) : Type 0 where
  pub tree : Templates
  pub written_as : WrittenAs tree x

-- what a tree is written as is read as that tree's objects; what is accepted is written as a tree; and there is one such tree only
pub record ReadsTheGrammar (reads : List ℕ → Read) : Type 0 where
  pub each_tree : (t : Templates) (x : List ℕ) → WrittenAs t x → reads x ≡ answered (objects_of 1 0 t)
  pub accepted : (x : List ℕ) → Octets x → (reads x).fault ≡ None → Derives x
  pub one_tree : (t u : Templates) (x : List ℕ) → WrittenAs t x → WrittenAs u x → t ≡ u
