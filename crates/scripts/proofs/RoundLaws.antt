-- Reading and writing undo each other, as callers see them. Assumes nothing.
use Rattle.std.specs.Prelude.{None}
use mathlib.Core.Path.{◌≡◌, refl, sym, ap, ap₂, ◌∙◌}
use mathlib.Core.Bool.{Bool, true, false, ◌&&◌, cond}
use mathlib.Core.List.{List, [], ◌∷◌, ◌++◌, append-nil}
use mathlib.Core.Option.{Option, none, some}
use Prim.Native.Nat.{ℕ, suc, ◌+◌, ◌-◌, ◌*◌, ◌/◌, ◌%◌, ◌≤◌, ◌<◌}
use native.Mathlib.Omega.{arith}
use borrow.Author.Tests.{le-leb, leb-true, leb-false, eqb-true, eqb-false, eq-eqb}
use lib.Dec.{eqb, leb}
use lib.ListN.{length, take, drop, length-append, replicate}
use lib.Seq.{take_at, drop_at}
use Rattle.octets.specs.Numbers.{Octets, be_octets, le_octets}
use Rattle.octets.specs.Laid.{laid}
use Rattle.octets.proofs.NumberLaws.{be-be_octets}
use Rattle.octets.proofs.LaidLaws.{laid_there}
use Rattle.shapes.specs.Length.{largest}
use Rattle.templates.specs.declared.Object.{Object}
use Rattle.templates.specs.declared.Read.{Read}
use Rattle.templates.specs.Grammar.{Kind, template1, template2, Script, Templates, nothing, script, outer, kind_tag, outer_tag, command_tag, identifier_tag, object, written_identifier, written_commands, written_script, written, identifier_fits, commands_fit, script_fits, fits, head_size, object_at, identifier_objects, command_objects, script_objects, objects_of, down_to, Sound}
use Rattle.templates.specs.Reading.{is_data, reading, no_object}
use Rattle.templates.specs.Lent.{object_bytes, object_in, laid_objects, objects_in}
use Rattle.templates.specs.Statement.{answered, WrittenAs}
use Rattle.templates.proofs.HeadLaws.{both, head_small, length-object}
use Rattle.templates.proofs.LentLaws.{length_object_bytes, length_laid_objects}
use Rattle.templates.proofs.StatementLaws.{reads_the_grammar}
use Rattle.scripts.specs.Writing.{lies, all_lie, own_length, added_by, bytes_within, length_of_first, bytes_of, said, objects_fault, check_number, write_number, write_size, write_after}
use Rattle.scripts.specs.Statement.{given, read_back, found, Rewritten, placed_bytes, ReadAgain, BothWays}
use Rattle.scripts.proofs.FromLaws.{same_object}
use Rattle.scripts.proofs.FaultLaws.{accepted}
use Rattle.scripts.proofs.WithinLaws.{within_shut, within_open, within_none}
use Rattle.scripts.proofs.WriteLaws.{lie_parts}
use Rattle.scripts.proofs.AgainLaws.{tree_within, tree_lie}
use Rattle.scripts.proofs.AcceptLaws.{down_split, tree_written}
use Rattle.scripts.proofs.LeftLaws.{data_most}
use Rattle.scripts.proofs.StatementLaws.{of_tree}
use Rattle.scripts.proofs.SayingLaws.{saying}

-- an object whose numbers fit their bytes is said by them
record Small (o : Object) : Type 0 where
  pub tag : o.tag < 65536
  pub level : o.level < 65536
  pub length : o.length < 65536
  pub place : o.place < 4294967296

object_said : (o : Object) → Small o → object_in (object_bytes o) ≡ o
unfolding object_in object_bytes be_octets le_octets
object_said o s =
    same_object (be-be_octets 2 o.tag s.tag) (be-be_octets 2 o.level s.level) (be-be_octets 2 o.length s.length)
    (be-be_octets 4 o.place s.place)

data Smalls : List Object → Type 0 where
  all : Smalls []
  more : {o : Object} {os : List Object} → Small o → Smalls os → Smalls (o ∷ os)

objects_said : (os : List Object) → Smalls os → objects_in (length os) (laid_objects os) ≡ os
unfolding objects_in laid_objects
objects_said [] all = refl
objects_said (o ∷ os) (more s m) =
    ap₂ (λ (x : List ℕ) (y : List ℕ). object_in x ∷ objects_in (length os) y)
    (take_at (object_bytes o) (laid_objects os) 10 (length_object_bytes o))
    (drop_at (object_bytes o) (laid_objects os) 10 (length_object_bytes o))
    ∙ ap₂ (λ (x : Object) (y : List Object). x ∷ y) (object_said o s) (objects_said os m)

all_said : (os : List Object) → Smalls os → said (laid_objects os) ≡ os
unfolding said
all_said os m =
    let a = length_laid_objects os in
    let b : length (laid_objects os) / 10 ≡ length os = omega arith in
    ap (λ (k : ℕ). objects_in k (laid_objects os)) b ∙ objects_said os m

smalls_both : (os ps : List Object) → Smalls os → Smalls ps → Smalls (os ++ ps)
smalls_both [] ps all n = n
smalls_both (o ∷ os) ps (more s m) n = more s (smalls_both os ps m n)

-- the objects of a tree that is not too long
module _ (t l p : ℕ) (d : List ℕ) (i : t < 65536) (j : l ≤ 5) (m : length d ≤ largest) (h : p + length (object t d) < 4294967296) where
  object_small : Small (object_at t l p (length d))
  unfolding object_at largest
  object_small = let a = length-object t d in record { tag = i; level = omega arith; length = omega arith; place = omega arith }

commands_small : (l p : ℕ) (ds : List (List ℕ)) → l ≤ 5 → commands_fit ds ≡ true → p + length (written_commands ds) < 4294967296 → Smalls (command_objects l p ds)
unfolding command_objects commands_fit written_commands
commands_small l p [] j f h = all
commands_small l p (d ∷ ds) j f h =
    let a = both f in
    let b = length-append (object command_tag d) (written_commands ds) in
    more (object_small command_tag l p d (omega arith) j (leb-true _ _ a.0) (omega arith))
    (commands_small l (p + length (object command_tag d)) ds j a.1 (omega arith))

identifier_small : (l p : ℕ) (i : Option (List ℕ)) → l ≤ 5 → identifier_fits i ≡ true → p + length (written_identifier i) < 4294967296
    → Smalls (identifier_objects l p i)
unfolding identifier_objects identifier_fits written_identifier largest
identifier_small l p none j f h = all
identifier_small l p (some d) j f h =
    let n : length d ≡ 4 = eqb-true _ _ f in more (object_small identifier_tag l p d (omega arith) j (omega arith) h) all

script_small : (l p : ℕ) (v : Script) → l ≤ 5 → script_fits v ≡ true → p + length (written_script v) < 4294967296 → Smalls (script_objects l p v)
unfolding script_objects script_fits written_script
script_small l p v j f h =
    let a = both {a = leb (length (written_script v)) largest} f in
    let b = both {a = identifier_fits v.identifier} a.1 in
    let c = length-append (written_identifier v.identifier) (written_commands v.commands) in
    let q = p + length (written_identifier v.identifier) in
    smalls_both (identifier_objects l p v.identifier) (command_objects l q v.commands) (identifier_small l p v.identifier j b.0 (omega arith))
    (commands_small l q v.commands j b.1 (omega arith))

kind_low : (k : Kind) → kind_tag k < 65536
kind_low template1 = omega arith
kind_low template2 = omega arith

-- a template and what it holds
held_small : (t l p : ℕ) (d : List ℕ) (os ps : List Object) → t < 65536 → l ≤ 5 → length d ≤ largest → p + length (object t d) < 4294967296 → Smalls os
    → Smalls ps
    → Smalls (object_at t l p (length d) ∷ (os ++ ps))
held_small t l p d os ps i j m h f g = more (object_small t l p d i j m h) (smalls_both os ps f g)

tree_small : (t : Templates) (l p : ℕ) → fits t ≡ true → down_to 4 (objects_of l p t) ≡ true → p + length (written t) < 4294967296 → Smalls (objects_of l p t)
unfolding objects_of fits written down_to script_fits object_at
tree_small nothing l p f g h = all
tree_small (script k v t) l p f g h =
    let w = written_script v in
    let a = both {a = script_fits v} f in
    let b = both {a = leb (length w) largest} a.0 in
    let n = length-append (object (kind_tag k) w) (written t) in
    let z = length-object (kind_tag k) w in
    let q = p + length (object (kind_tag k) w) in
    let i = p + head_size (kind_tag k) (length w) in
    let c = both {a = leb l 4} g in
    let e : l ≤ 4 = leb-true _ _ c.0 in
    let u = down_split 4 (script_objects (l + 1) i v) (objects_of l q t) c.1 in
    held_small (kind_tag k) l p w (script_objects (l + 1) i v) (objects_of l q t) (kind_low k) (omega arith) (leb-true _ _ b.0) (omega arith)
    (script_small (l + 1) i v (omega arith) a.0 (omega arith))
    (tree_small t l q a.1 u.1 (omega arith))
tree_small (outer y t) l p f g h =
    let w = written y in
    let a = both {a = leb (length w) largest} f in
    let b = both {a = fits y} a.1 in
    let n = length-append (object outer_tag w) (written t) in
    let z = length-object outer_tag w in
    let q = p + length (object outer_tag w) in
    let i = p + head_size outer_tag (length w) in
    let c = both {a = leb l 4} g in
    let e : l ≤ 4 = leb-true _ _ c.0 in
    let u = down_split 4 (objects_of (l + 1) i y) (objects_of l q t) c.1 in
    held_small outer_tag l p w (objects_of (l + 1) i y) (objects_of l q t) (omega arith) (omega arith) (leb-true _ _ a.0) (omega arith)
    (tree_small y (l + 1) i b.0 u.0 (omega arith))
    (tree_small t l q b.1 u.1 (omega arith))

-- at most 259 bytes for each object
added_most : (s : List ℕ) (o : Object) (n : ℕ) → lies s o ≡ true → added_by o n ≤ 259
unfolding added_by own_length largest
added_most s o n y = go (is_data o.tag) refl
  where
    go : (b : Bool) → is_data o.tag ≡ b → head_size o.tag n + cond (is_data o.tag) o.length 0 ≤ 259
    go true e =
        let a = (head_small o.tag n).most in
        let m = data_most s o e y in
        let z : cond (is_data o.tag) o.length 0 ≡ o.length = ap (λ (x : Bool). cond x o.length 0) e in
        omega arith
    go false e =
        let a = (head_small o.tag n).most in
        let z : cond (is_data o.tag) o.length 0 ≡ 0 = ap (λ (x : Bool). cond x o.length 0) e in
        omega arith

bytes_most : (s : List ℕ) (l : ℕ) (os : List Object) → all_lie s os ≡ true → bytes_within l os ≤ 259 * length os
bytes_most s l [] y = let a = within_none l in omega arith
bytes_most s l (o ∷ os) y = go (leb o.level l) refl (bytes_most s l os (lie_parts s o os y).1)
  where
    go : (b : Bool) → leb o.level l ≡ b → bytes_within l os ≤ 259 * length os → bytes_within l (o ∷ os) ≤ 259 * suc (length os)
    go true e i = let a = within_shut l o os (leb-true _ _ e) in omega arith
    go false e i =
        let a = within_open l o os (leb-false _ _ e) in
        let m = added_most s o (length_of_first o os) (lie_parts s o os y).0 in
        omega arith

sound_small : (t : Templates) → Sound t → Smalls (objects_of 1 0 t)
sound_small t s =
    let os = objects_of 1 0 t in
    let a = bytes_most (written t) 0 os (tree_lie t s.lengths) in
    let b = tree_within t 1 0 [] 0 (omega arith) (omega arith) in
    let c : bytes_within 0 (os ++ []) ≡ bytes_within 0 os = ap (bytes_within 0) (append-nil os) in
    let n : length os ≤ 32 = leb-true _ _ s.many in
    tree_small t 1 0 s.lengths s.levels (omega arith)

-- what a reading found
found_all : (os : List Object) → found (answered os) ≡ os
unfolding found answered
found_all os = take_at os (replicate (32 - length os) no_object) (length os) refl

found_tree : (t : Templates) (x : List ℕ) → WrittenAs t x → found (reading x) ≡ objects_of 1 0 t
found_tree t x w = ap found (reads_the_grammar.each_tree t x w) ∙ found_all (objects_of 1 0 t)

-- a tree's objects, lent as bytes, are written as the tree
module _ (t : Templates) (x : List ℕ) (w : WrittenAs t x) (out : List ℕ) (p : ℕ) (h : p + length x ≤ length out) where
  abbrev lent : List ℕ
  lent = laid_objects (objects_of 1 0 t)

  is_said : said lent ≡ objects_of 1 0 t
  is_said = all_said (objects_of 1 0 t) (sound_small t w.sound)

  is_again : bytes_of x (said lent) ≡ x
  is_again = ap₂ bytes_of (sym w.so) is_said ∙ (tree_written t w.sound).again ∙ w.so

  is_checked : check_number lent x ≡ 0
  unfolding check_number
  is_checked =
      let a = length_laid_objects (objects_of 1 0 t) in
      let m : length lent % 10 ≡ 0 = omega arith in
      let y : all_lie x (said lent) ≡ true = ap₂ all_lie (sym w.so) is_said ∙ (tree_written t w.sound).lie in
      let g : objects_fault (said lent) ≡ 0 = ap objects_fault is_said ∙ (tree_written t w.sound).good in
      ap₂ (λ (u v : Bool). cond (u && v) (objects_fault (said lent)) 1) (eq-eqb _ _ m) y ∙ g

  is_number : write_number lent x out p ≡ 0
  unfolding write_number
  is_number =
      ap (λ (k : ℕ). cond (eqb k 0) (cond (leb (p + length (bytes_of x (said lent))) (length out)) 0 3) k) is_checked
      ∙ ap (λ (y : List ℕ). cond (leb (p + length y) (length out)) 0 3) is_again
      ∙ ap (λ (b : Bool). cond b 0 3) (le-leb _ _ h)

is_size : (b s out : List ℕ) (p : ℕ) → write_number b s out p ≡ 0 → write_size b s out p ≡ length (bytes_of s (said b))
unfolding write_size
is_size b s out p e = simp (eq-eqb _ 0 e)

is_after : (b s out : List ℕ) (p : ℕ) → write_number b s out p ≡ 0 → write_after b s out p ≡ laid out p (bytes_of s (said b))
unfolding write_after
is_after b s out p e = simp (eq-eqb _ 0 e)

written_read : (x : List ℕ) → Octets x → (reading x).fault ≡ None → (out : List ℕ) (p : ℕ) → p + length x ≤ length out → Rewritten x out p
written_read x o e out p h =
    let d = reads_the_grammar.accepted x o e in
    let t = d.tree in
    let w = d.written_as in
    let f : laid_objects (found (reading x)) ≡ laid_objects (objects_of 1 0 t) = ap laid_objects (found_tree t x w) in
    let n = is_number t x w out p h in
    record {
      number = ap (λ (b : List ℕ). write_number b x out p) f ∙ n;
      size = ap (λ (b : List ℕ). write_size b x out p) f ∙ is_size (laid_objects (objects_of 1 0 t)) x out p n ∙ ap length (is_again t x w out p h);
      buffer = ap (λ (b : List ℕ). write_after b x out p) f ∙ is_after (laid_objects (objects_of 1 0 t)) x out p n ∙ ap (laid out p) (is_again t x w out p h);
    }

-- what is written is read
record Checked (b s out : List ℕ) (p : ℕ) : Type 0 where
  good : check_number b s ≡ 0
  room : p + length (bytes_of s (said b)) ≤ length out

write_checked : (b s out : List ℕ) (p : ℕ) → write_number b s out p ≡ 0 → Checked b s out p
unfolding write_number
write_checked b s out p e = go (eqb (check_number b s) 0) refl (leb (p + length (bytes_of s (said b))) (length out)) refl e
  where
    go : (x : Bool) → eqb (check_number b s) 0 ≡ x → (y : Bool) → leb (p + length (bytes_of s (said b))) (length out) ≡ y
        → cond x (cond y 0 3) (check_number b s) ≡ 0 → Checked b s out p
    go true i true j z = record { good = eqb-true _ _ i; room = leb-true _ _ j }
    go true i false j z = absurd (omega (arith, z))
    go false i y j z = absurd (eqb-false _ _ i z)

read_written : (b s out : List ℕ) (p : ℕ) → write_number b s out p ≡ 0 → ReadAgain b s out p
unfolding answered placed_bytes
read_written b s out p e =
    let c = write_checked b s out p e in
    let a = accepted b s c.good in
    let g = of_tree s (said b) a.good a.lie in
    let t = g.tree in
    let y = bytes_of s (said b) in
    let f = is_after b s out p e in
    let i : placed_bytes b s out p ≡ y =
    ap₂ (λ (k : ℕ) (z : List ℕ). take k (drop p z)) (is_size b s out p e) f ∙ laid_there out p y c.room
    in
    let w : WrittenAs t y = record { sound = g.sound; so = sym g.so } in
    record {
      number = ap (λ (z : List ℕ). (reading z).fault) i ∙ ap (λ (r : Read). r.fault) (reads_the_grammar.each_tree t y w);
      same =
          ap (λ (z : List ℕ). read_back z (found (reading z))) i
          ∙ ap (read_back y) (found_tree t y w) ∙ ap (λ (z : List ℕ). read_back z (objects_of 1 0 t)) g.so ∙ sym g.same;
      others = f ∙ ap (laid out p) (sym i);
    }

-- what says what a tree says is written
written_when : (b s out : List ℕ) (p : ℕ) (t : Templates) → Sound t → length b % 10 ≡ 0 → all_lie s (said b) ≡ true
    → given s (said b) ≡ read_back (written t) (objects_of 1 0 t) → p + length (written t) ≤ length out → write_number b s out p ≡ 0
unfolding write_number check_number
written_when b s out p t w m y e h =
    let g = saying s (said b) t w e in
    let c : check_number b s ≡ 0 = ap₂ (λ (u v : Bool). cond (u && v) (objects_fault (said b)) 1) (eq-eqb _ _ m) y ∙ g.good in
    ap (λ (k : ℕ). cond (eqb k 0) (cond (leb (p + length (bytes_of s (said b))) (length out)) 0 3) k) c
    ∙ ap (λ (z : List ℕ). cond (leb (p + length z) (length out)) 0 3) g.so
    ∙ ap (λ (z : Bool). cond z 0 3) (le-leb _ _ h)

-- Wish 6: reading and writing undo each other
pub both_ways : BothWays
both_ways = record { read_written = read_written; written_read = written_read; written_when = written_when }
