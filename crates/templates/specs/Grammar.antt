-- Script templates (Wish 6): the grammar, how its trees are written, and the objects of a tree. What bytes are script templates is said here alone. Assumes
-- nothing.
use Rattle.std.specs.Prelude.{ℕ, ◌+◌, ◌≡◌, Bool, true, ◌&&◌, cond, List, [], ◌∷◌, ◌++◌, eqb, leb, length}
use Rattle.std.proofs.Math.Option.{Option, none, some}
use Rattle.shapes.specs.Length.{largest, length_field}
use Rattle.templates.specs.declared.Object.{Object}

-- "Hosts send scripts in EMV templates: 71 or 72, holding an optional identifier (9f18, 4 bytes) and then commands (86)."
pub data Kind : Type 0 where
  template1 : Kind
  template2 : Kind

pub record Script : Type 0 where
  pub identifier : Option (List ℕ)
  pub commands : List (List ℕ)

-- "these inside outer ones of tag e1, and an e1 inside an e1; at the top, at least one, and in e1 stand 71, 72 and e1 in any number":
-- nothing; a 71 or 72, and more; an e1 with what it holds, and more
pub data Templates : Type 0 where
  nothing : Templates
  script : Kind → Script → Templates → Templates
  outer : Templates → Templates → Templates

-- tags
abbrev pub kind_tag : Kind → ℕ
kind_tag template1 = 0x71
kind_tag template2 = 0x72

abbrev pub outer_tag : ℕ
outer_tag = 0xe1

abbrev pub command_tag : ℕ
command_tag = 0x86

abbrev pub identifier_tag : ℕ
identifier_tag = 0x9f18

unfoldable pub tag_bytes : ℕ → List ℕ
tag_bytes t = cond (eqb t identifier_tag) (0x9f ∷ 0x18 ∷ []) (t ∷ [])

-- an object: its tag; its length, "those of Wish 1"; its data
unfoldable pub object : ℕ → List ℕ → List ℕ
object t d = tag_bytes t ++ (length_field (length d) ++ d)

unfoldable pub written_identifier : Option (List ℕ) → List ℕ
written_identifier none = []
written_identifier (some d) = object identifier_tag d

unfoldable pub written_commands : List (List ℕ) → List ℕ
written_commands [] = []
written_commands (d ∷ ds) = object command_tag d ++ written_commands ds

unfoldable pub written_script : Script → List ℕ
written_script s = written_identifier s.identifier ++ written_commands s.commands

unfoldable pub written : Templates → List ℕ
written nothing = []
written (script k s t) = object (kind_tag k) (written_script s) ++ written t
written (outer i t) = object outer_tag (written i) ++ written t

-- lengths that can be written: an identifier of 4, all others up to 255
unfoldable pub identifier_fits : Option (List ℕ) → Bool
identifier_fits none = true
identifier_fits (some d) = eqb (length d) 4

unfoldable pub commands_fit : List (List ℕ) → Bool
commands_fit [] = true
commands_fit (d ∷ ds) = leb (length d) largest && commands_fit ds

unfoldable pub script_fits : Script → Bool
script_fits s = leb (length (written_script s)) largest && (identifier_fits s.identifier && commands_fit s.commands)

unfoldable pub fits : Templates → Bool
fits nothing = true
fits (script k s t) = script_fits s && fits t
fits (outer i t) = leb (length (written i)) largest && (fits i && fits t)

-- "Every object comes out in order with its tag, level, and its data's place and length"; "levels count from 1": the objects of what stands at level l from
-- place p on
unfoldable pub head_size : ℕ → ℕ → ℕ
head_size t n = length (tag_bytes t) + length (length_field n)

unfoldable pub object_at : ℕ → ℕ → ℕ → ℕ → Object
object_at t l p n = record { tag = t; level = l; place = p + head_size t n; length = n }

unfoldable pub identifier_objects : ℕ → ℕ → Option (List ℕ) → List Object
identifier_objects l p none = []
identifier_objects l p (some d) = object_at identifier_tag l p (length d) ∷ []

unfoldable pub command_objects : ℕ → ℕ → List (List ℕ) → List Object
command_objects l p [] = []
command_objects l p (d ∷ ds) = object_at command_tag l p (length d) ∷ command_objects l (p + length (object command_tag d)) ds

unfoldable pub script_objects : ℕ → ℕ → Script → List Object
script_objects l p s = identifier_objects l p s.identifier ++ command_objects l (p + length (written_identifier s.identifier)) s.commands

unfoldable pub objects_of : ℕ → ℕ → Templates → List Object
objects_of l p nothing = []
objects_of l p (script k s t) =
    object_at (kind_tag k) l p (length (written_script s))
    ∷ (script_objects (l + 1) (p + head_size (kind_tag k) (length (written_script s))) s
    ++ objects_of l (p + length (object (kind_tag k) (written_script s))) t)
objects_of l p (outer i t) =
    object_at outer_tag l p (length (written i))
    ∷ (objects_of (l + 1) (p + head_size outer_tag (length (written i))) i ++ objects_of l (p + length (object outer_tag (written i))) t)

-- "down to four levels", "at most 32 of them", "at the top, at least one"
unfoldable pub down_to : ℕ → List Object → Bool
down_to n [] = true
down_to n (o ∷ os) = leb o.level n && down_to n os

pub record Sound (t : Templates) : Type 0 where
  pub lengths : fits t ≡ true
  pub levels : down_to 4 (objects_of 1 0 t) ≡ true
  pub many : leb (length (objects_of 1 0 t)) 32 ≡ true
  pub some_one : leb 1 (length (objects_of 1 0 t)) ≡ true
