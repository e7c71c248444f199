-- What a tree shows, object by object, and what that is written as. Assumes nothing.
use mathlib.Core.Path.{◌≡◌, refl, sym, ap, ap₂, ◌∙◌}
use mathlib.Core.Bool.{Bool, true, false, cond}
use mathlib.Core.List.{List, [], ◌∷◌, ◌++◌, append_assoc, append-nil}
use mathlib.Core.Option.{Option, none, some}
use Prim.Native.Nat.{ℕ, ◌+◌, ◌≤◌, ◌<◌}
use native.Mathlib.Omega.{arith}
use lib.ListN.{length}
use Rattle.shapes.specs.Length.{length_field}
use Rattle.templates.specs.declared.Object.{Object}
use Rattle.templates.specs.Grammar.{Kind, template1, template2, Script, Templates, nothing, script, outer, kind_tag, outer_tag, command_tag, identifier_tag, tag_bytes, object, written_identifier, written_commands, written_script, written, head_size}
use Rattle.templates.specs.Reading.{stands, is_data}
use Rattle.templates.proofs.HeadLaws.{object_then}
use Rattle.scripts.specs.Writing.{own_length, added_by, bytes_within, length_of_first, data_in, bytes_of}
use Rattle.scripts.specs.Statement.{Shown, shown, given}
use Rattle.scripts.proofs.WithinLaws.{within_shut, within_open, within_none}

-- what a tree shows at level l
abbrev pub one : ℕ → ℕ → ℕ → List ℕ → Shown
one t l n d = record { tag = t; level = l; length = n; held = d }

abbrev pub commands_shown : ℕ → List (List ℕ) → List Shown
commands_shown l [] = []
commands_shown l (d ∷ ds) = one command_tag l (length d) d ∷ commands_shown l ds

abbrev pub identifier_shown : ℕ → Option (List ℕ) → List Shown
identifier_shown l none = []
identifier_shown l (some d) = one identifier_tag l (length d) d ∷ []

abbrev pub script_shown : ℕ → Script → List Shown
script_shown l v = identifier_shown l v.identifier ++ commands_shown l v.commands

abbrev pub tree_shown : ℕ → Templates → List Shown
tree_shown l nothing = []
tree_shown l (script k v t) = one (kind_tag k) l (length (written_script v)) [] ∷ (script_shown (l + 1) v ++ tree_shown l t)
tree_shown l (outer i t) = one outer_tag l (length (written i)) [] ∷ (tree_shown (l + 1) i ++ tree_shown l t)

-- what is shown is written
abbrev pub spelled : List Shown → List ℕ
spelled [] = []
spelled (x ∷ xs) = tag_bytes x.tag ++ (length_field x.length ++ (x.held ++ spelled xs))

pub spelled-given : (s : List ℕ) (os : List Object) → bytes_of s os ≡ spelled (given s os)
unfolding bytes_of given shown
spelled-given s [] = refl
spelled-given s (o ∷ os) =
    ap (λ (x : List ℕ). tag_bytes o.tag ++ (length_field (length_of_first o os) ++ (data_in s o ++ x))) (spelled-given s os)

spelled-append : (a b : List Shown) → spelled (a ++ b) ≡ spelled a ++ spelled b
spelled-append [] b = refl
spelled-append (x ∷ a) b =
    let t = tag_bytes x.tag in
    let f = length_field x.length in
    let d = x.held in
    ap (λ (y : List ℕ). t ++ (f ++ (d ++ y))) (spelled-append a b)
    ∙ ap (λ (y : List ℕ). t ++ (f ++ y)) (sym (append_assoc d (spelled a) (spelled b)))
    ∙ ap (λ (y : List ℕ). t ++ y) (sym (append_assoc f (d ++ spelled a) (spelled b)))
    ∙ sym (append_assoc t (f ++ (d ++ spelled a)) (spelled b))

spelled-commands : (l : ℕ) (ds : List (List ℕ)) → spelled (commands_shown l ds) ≡ written_commands ds
unfolding written_commands
spelled-commands l [] = refl
spelled-commands l (d ∷ ds) =
    ap (λ (x : List ℕ). tag_bytes command_tag ++ (length_field (length d) ++ (d ++ x))) (spelled-commands l ds)
    ∙ sym (object_then command_tag d (written_commands ds))

spelled-identifier : (l : ℕ) (i : Option (List ℕ)) → spelled (identifier_shown l i) ≡ written_identifier i
unfolding written_identifier object
spelled-identifier l none = refl
spelled-identifier l (some d) = ap (λ (x : List ℕ). tag_bytes identifier_tag ++ (length_field (length d) ++ x)) (append-nil d)

spelled-script : (l : ℕ) (v : Script) → spelled (script_shown l v) ≡ written_script v
unfolding written_script
spelled-script l v =
    spelled-append (identifier_shown l v.identifier) (commands_shown l v.commands)
    ∙ ap₂ (λ (x y : List ℕ). x ++ y) (spelled-identifier l v.identifier) (spelled-commands l v.commands)

pub spelled-tree : (l : ℕ) (t : Templates) → spelled (tree_shown l t) ≡ written t
unfolding written
spelled-tree l nothing = refl
spelled-tree l (script k v t) =
    let w = written_script v in
    ap (λ (x : List ℕ). tag_bytes (kind_tag k) ++ (length_field (length w) ++ x))
    (spelled-append (script_shown (l + 1) v) (tree_shown l t) ∙ ap₂ (λ (x y : List ℕ). x ++ y) (spelled-script (l + 1) v) (spelled-tree l t))
    ∙ sym (object_then (kind_tag k) w (written t))
spelled-tree l (outer i t) =
    let w = written i in
    ap (λ (x : List ℕ). tag_bytes outer_tag ++ (length_field (length w) ++ x))
    (spelled-append (tree_shown (l + 1) i) (tree_shown l t) ∙ ap₂ (λ (x y : List ℕ). x ++ y) (spelled-tree (l + 1) i) (spelled-tree l t))
    ∙ sym (object_then outer_tag w (written t))

-- which tags have data of their own
pub command_data : is_data command_tag ≡ true
unfolding is_data stands
command_data = refl

pub identifier_data : is_data identifier_tag ≡ true
unfolding is_data stands
identifier_data = refl

pub outer_no_data : is_data outer_tag ≡ false
unfolding is_data stands
outer_no_data = refl

pub kind_no_data : (k : Kind) → is_data (kind_tag k) ≡ false
unfolding is_data stands
kind_no_data template1 = refl
kind_no_data template2 = refl

-- an object that has data of its own, and one that has not
module _ (o : Object) (os : List Object) where
  pub first_data : is_data o.tag ≡ true → length_of_first o os ≡ o.length
  unfolding length_of_first own_length
  first_data e = simp e

  pub first_template : is_data o.tag ≡ false → length_of_first o os ≡ bytes_within o.level os
  unfolding length_of_first own_length
  first_template e = simp e

  pub within_data : (m : ℕ) → m < o.level → is_data o.tag ≡ true → bytes_within m (o ∷ os) ≡ head_size o.tag o.length + o.length + bytes_within m os
  unfolding added_by own_length
  within_data m h e =
      within_open m o os h
      ∙ ap (λ (n : ℕ). added_by o n + bytes_within m os) (first_data e)
      ∙ ap (λ (b : Bool). head_size o.tag o.length + cond b o.length 0 + bytes_within m os) e

  pub within_template : (m : ℕ) → m < o.level → is_data o.tag ≡ false
      → bytes_within m (o ∷ os) ≡ head_size o.tag (bytes_within o.level os) + bytes_within m os
  unfolding added_by own_length
  within_template m h e =
      within_open m o os h
      ∙ ap (λ (n : ℕ). added_by o n + bytes_within m os) (first_template e)
      ∙ ap (λ (b : Bool). head_size o.tag (bytes_within o.level os) + cond b o.length 0 + bytes_within m os) e
      ∙ omega arith

-- the level of the first object
abbrev pub first_level : List Object → ℕ
first_level [] = 0
first_level (o ∷ os) = o.level

pub shut : (m : ℕ) (r : List Object) → first_level r ≤ m → bytes_within m r ≡ 0
shut m [] h = within_none m
shut m (o ∷ r) h = within_shut m o r h
