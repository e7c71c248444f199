-- The objects of a tree are accepted, and written as the tree. Assumes nothing.
use mathlib.Core.Path.{◌≡◌, refl, sym, ap, ap₂, ◌∙◌}
use mathlib.Core.Bool.{true, false}
use mathlib.Core.List.{List, [], ◌∷◌, ◌++◌, append_assoc, append-nil}
use mathlib.Core.Option.{Option, none, some}
use Prim.Native.Nat.{ℕ, ◌+◌, ◌≤◌, ◌<◌}
use native.Mathlib.Omega.{arith}
use borrow.Author.Tests.{le-leb, leb-true, eqb-true}
use lib.Dec.{leb}
use lib.ListN.{length, take, drop, length-append, length-drop}
use lib.Seq.{drop_at, drop-drop}
use Rattle.shapes.specs.Length.{largest, length_field}
use Rattle.templates.specs.declared.Object.{Object}
use Rattle.templates.specs.Grammar.{Script, Templates, nothing, script, outer, kind_tag, outer_tag, command_tag, identifier_tag, tag_bytes, object, written_identifier, written_commands, written_script, written, identifier_fits, commands_fit, script_fits, fits, head_size, object_at, identifier_objects, command_objects, script_objects, objects_of}
use Rattle.templates.specs.Reading.{is_data}
use Rattle.templates.proofs.HeadLaws.{both, joined, head_small, length-object, object_then, data_read}
use Rattle.scripts.specs.Writing.{lies, all_lie, bytes_within, data_in, bytes_of}
use Rattle.scripts.specs.Statement.{Shown, shown, given, read_back}
use Rattle.scripts.proofs.WriteLaws.{data_some, data_none}
use Rattle.scripts.proofs.ShownLaws.{one, commands_shown, identifier_shown, script_shown, tree_shown, spelled, spelled-given, spelled-tree, command_data, identifier_data, outer_no_data, kind_no_data, first_data, first_template, within_data, within_template, first_level, shut}

-- the bytes of a tree's objects, with objects r after them
object_within : (t l p : ℕ) (d : List ℕ) (os : List Object) (m : ℕ) → is_data t ≡ true → m < l
    → bytes_within m (object_at t l p (length d) ∷ os) ≡ length (object t d) + bytes_within m os
unfolding object_at
object_within t l p d os m e h =
    let a = within_data (object_at t l p (length d)) os m h e in
    let b = length-object t d in
    omega arith

commands_within : (l p : ℕ) (ds : List (List ℕ)) (r : List Object) (m : ℕ) → m < l
    → bytes_within m (command_objects l p ds ++ r) ≡ length (written_commands ds) + bytes_within m r
unfolding command_objects written_commands
commands_within l p [] r m h = omega arith
commands_within l p (d ∷ ds) r m h =
    let q = p + length (object command_tag d) in
    let a = object_within command_tag l p d (command_objects l q ds ++ r) m command_data h in
    let b = commands_within l q ds r m h in
    let c = length-append (object command_tag d) (written_commands ds) in
    omega arith

identifier_within : (l p : ℕ) (i : Option (List ℕ)) (r : List Object) (m : ℕ) → m < l
    → bytes_within m (identifier_objects l p i ++ r) ≡ length (written_identifier i) + bytes_within m r
unfolding identifier_objects written_identifier
identifier_within l p none r m h = omega arith
identifier_within l p (some d) r m h = object_within identifier_tag l p d r m identifier_data h

pub script_within : (l p : ℕ) (v : Script) (r : List Object) (m : ℕ) → m < l
    → bytes_within m (script_objects l p v ++ r) ≡ length (written_script v) + bytes_within m r
unfolding script_objects written_script
script_within l p v r m h =
    let q = p + length (written_identifier v.identifier) in
    let cs = command_objects l q v.commands in
    let e = ap (bytes_within m) (append_assoc (identifier_objects l p v.identifier) cs r) in
    let a = identifier_within l p v.identifier (cs ++ r) m h in
    let b = commands_within l q v.commands r m h in
    let c = length-append (written_identifier v.identifier) (written_commands v.commands) in
    omega arith

-- what follows a tree's objects stands at their level or above, and so do they
pub first_level_lem : (t : Templates) (l p : ℕ) (r : List Object) → first_level r ≤ l → first_level (objects_of l p t ++ r) ≤ l
unfolding objects_of object_at
first_level_lem nothing l p r h = h
first_level_lem (script k v t) l p r h = omega arith
first_level_lem (outer i t) l p r h = omega arith

pub more : (t l p n : ℕ) (xs ys r : List Object) → (object_at t l p n ∷ (xs ++ ys)) ++ r ≡ object_at t l p n ∷ (xs ++ (ys ++ r))
more t l p n xs ys r = ap (λ (z : List Object). object_at t l p n ∷ z) (append_assoc xs ys r)

-- a template whose objects xs are w bytes, and what follows it
holds : (t l p : ℕ) (d : List ℕ) (xs r : List Object) (m : ℕ) → is_data t ≡ false → m < l → first_level r ≤ l
    → ((k : ℕ) → k < l + 1 → bytes_within k (xs ++ r) ≡ length d + bytes_within k r)
    → bytes_within m (object_at t l p (length d) ∷ (xs ++ r)) ≡ length (object t d) + bytes_within m r
unfolding object_at
holds t l p d xs r m e h f w =
    let a = within_template (object_at t l p (length d)) (xs ++ r) m h e in
    let b = length-object t d in
    let i : bytes_within l (xs ++ r) ≡ length d = let u = w l (omega arith) in let v = shut l r f in omega arith in
    let c : head_size t (bytes_within l (xs ++ r)) ≡ head_size t (length d) = ap (head_size t) i in
    let j = w m (omega arith) in
    omega arith

pub tree_within : (t : Templates) (l p : ℕ) (r : List Object) (m : ℕ) → m < l → first_level r ≤ l
    → bytes_within m (objects_of l p t ++ r) ≡ length (written t) + bytes_within m r
unfolding objects_of written
tree_within nothing l p r m h f = omega arith
tree_within (script k v t) l p r m h f =
    let w = written_script v in
    let xs = script_objects (l + 1) (p + head_size (kind_tag k) (length w)) v in
    let q = p + length (object (kind_tag k) w) in
    let ys = objects_of l q t in
    let e = ap (bytes_within m) (more (kind_tag k) l p (length w) xs ys r) in
    let a =
    holds (kind_tag k) l p w xs (ys ++ r) m (kind_no_data k) h (first_level_lem t l q r f)
    (λ j z. script_within (l + 1) (p + head_size (kind_tag k) (length w)) v (ys ++ r) j z)
    in
    let b = tree_within t l q r m h f in
    let c = length-append (object (kind_tag k) w) (written t) in
    omega arith
tree_within (outer i t) l p r m h f =
    let w = written i in
    let xs = objects_of (l + 1) (p + head_size outer_tag (length w)) i in
    let q = p + length (object outer_tag w) in
    let ys = objects_of l q t in
    let g = first_level_lem t l q r f in
    let e = ap (bytes_within m) (more outer_tag l p (length w) xs ys r) in
    let a =
    holds outer_tag l p w xs (ys ++ r) m outer_no_data h g
    (λ j z. tree_within i (l + 1) (p + head_size outer_tag (length w)) (ys ++ r) j z (omega arith))
    in
    let b = tree_within t l q r m h f in
    let c = length-append (object outer_tag w) (written t) in
    omega arith

-- a string x that has w at place p, and z after it
split : (x : List ℕ) (p : ℕ) (u v z : List ℕ) → drop p x ≡ (u ++ v) ++ z → (drop p x ≡ u ++ (v ++ z)) × (drop (p + length u) x ≡ v ++ z)
split x p u v z e =
    let f : drop p x ≡ u ++ (v ++ z) = e ∙ append_assoc u v z in
    (f, sym (drop-drop (length u) p x) ∙ ap (drop (length u)) f ∙ drop_at u (v ++ z) (length u) refl)

inside : (t : ℕ) (x : List ℕ) (p : ℕ) (d z : List ℕ) → drop p x ≡ object t d ++ z → drop (p + head_size t (length d)) x ≡ d ++ z
unfolding head_size
inside t x p d z e =
    let f = length_field (length d) in
    let n = length (tag_bytes t) + length f in
    sym (drop-drop n p x)
    ∙ ap (drop n) (e ∙ object_then t d z ∙ sym (append_assoc (tag_bytes t) f (d ++ z)))
    ∙ drop_at (tag_bytes t ++ f) (d ++ z) n (length-append (tag_bytes t) f)

-- an object with data d of its own at place p of x: what it holds, and that it lies there
module _ (t l : ℕ) (x : List ℕ) (p : ℕ) (d z : List ℕ) (e : is_data t ≡ true) (h : drop p x ≡ object t d ++ z) where
  held_there : data_in x (object_at t l p (length d)) ≡ d
  unfolding object_at
  held_there =
      data_some x (object_at t l p (length d)) e
      ∙ ap (take (length d)) (sym (drop-drop (head_size t (length d)) p x) ∙ ap (drop (head_size t (length d))) h)
      ∙ data_read t d z

  lies_there : length d ≤ largest → lies x (object_at t l p (length d)) ≡ true
  unfolding object_at lies
  lies_there m =
      let a = simp length-drop at (ap length h) in
      let b = length-append (object t d) z in
      let c = length-object t d in
      let s = (head_small t (length d)).least in
      simp (e, le-leb (length d) largest m, le-leb (p + head_size t (length d) + length d) (length x) (omega arith))

  given_data : (os : List Object) → given x (object_at t l p (length d) ∷ os) ≡ one t l (length d) d ∷ given x os
  unfolding given shown object_at
  given_data os = ap₂ (λ (n : ℕ) (w : List ℕ). one t l n w ∷ given x os) (first_data (object_at t l p (length d)) os e) held_there

  back_data : (os : List Object) → read_back x (object_at t l p (length d) ∷ os) ≡ one t l (length d) d ∷ read_back x os
  unfolding read_back shown object_at
  back_data os = ap (λ (w : List ℕ). one t l (length d) w ∷ read_back x os) held_there

  lie_data : (os : List Object) → length d ≤ largest → all_lie x os ≡ true → all_lie x (object_at t l p (length d) ∷ os) ≡ true
  unfolding all_lie
  lie_data os m f = joined (lies_there m, f)

-- a template that holds xs, w bytes, and what follows it
module _ (t l : ℕ) (x : List ℕ) (p : ℕ) (e : is_data t ≡ false) where
  given_template : (n : ℕ) (os : List Object) → bytes_within l os ≡ n → given x (object_at t l p n ∷ os) ≡ one t l n [] ∷ given x os
  unfolding given shown object_at
  given_template n os i =
      ap₂ (λ (m : ℕ) (w : List ℕ). one t l m w ∷ given x os) (first_template (object_at t l p n) os e ∙ i) (data_none x (object_at t l p n) e)

  back_template : (n : ℕ) (os : List Object) → read_back x (object_at t l p n ∷ os) ≡ one t l n [] ∷ read_back x os
  unfolding read_back shown object_at
  back_template n os = ap (λ (w : List ℕ). one t l n w ∷ read_back x os) (data_none x (object_at t l p n) e)

  lie_template : (n : ℕ) (os : List Object) → all_lie x os ≡ true → all_lie x (object_at t l p n ∷ os) ≡ true
  unfolding all_lie lies object_at
  lie_template n os f = simp e f

-- the objects of a tree that x has at place p, with objects r after them: what they say, and that their data lie in x
pub record Told (x : List ℕ) (xs : List Shown) (os r : List Object) : Type 0 where
  pub is_given : given x (os ++ r) ≡ xs ++ given x r
  pub is_back : read_back x (os ++ r) ≡ xs ++ read_back x r
  pub lie : all_lie x r ≡ true → all_lie x (os ++ r) ≡ true

told_none : (x : List ℕ) (r : List Object) → Told x [] [] r
told_none x r = record { is_given = refl; is_back = refl; lie = λ f. f }

told_data : (t l : ℕ) (x : List ℕ) (p : ℕ) (d z : List ℕ) → is_data t ≡ true → drop p x ≡ object t d ++ z → length d ≤ largest
    → (xs : List Shown) (os r : List Object) → Told x xs os r → Told x (one t l (length d) d ∷ xs) (object_at t l p (length d) ∷ os) r
told_data t l x p d z e h m xs os r f =
    record {
      is_given = given_data t l x p d z e h (os ++ r) ∙ ap (λ (y : List Shown). one t l (length d) d ∷ y) f.is_given;
      is_back = back_data t l x p d z e h (os ++ r) ∙ ap (λ (y : List Shown). one t l (length d) d ∷ y) f.is_back;
      lie = λ i. lie_data t l x p d z e h (os ++ r) m (f.lie i);
    }

told_template : (t l : ℕ) (x : List ℕ) (p n : ℕ) → is_data t ≡ false → (xs : List Shown) (os r : List Object) → bytes_within l (os ++ r) ≡ n
    → Told x xs os r → Told x (one t l n [] ∷ xs) (object_at t l p n ∷ os) r
told_template t l x p n e xs os r i f =
    record {
      is_given = given_template t l x p e n (os ++ r) i ∙ ap (λ (y : List Shown). one t l n [] ∷ y) f.is_given;
      is_back = back_template t l x p e n (os ++ r) ∙ ap (λ (y : List Shown). one t l n [] ∷ y) f.is_back;
      lie = λ j. lie_template t l x p e n (os ++ r) (f.lie j);
    }

told_both : (x : List ℕ) (xs ys : List Shown) (os ps r : List Object) → Told x xs os (ps ++ r) → Told x ys ps r → Told x (xs ++ ys) (os ++ ps) r
told_both x xs ys os ps r f g =
    record {
      is_given = ap (given x) (append_assoc os ps r) ∙ f.is_given ∙ ap (λ (y : List Shown). xs ++ y) g.is_given ∙ sym (append_assoc xs ys (given x r));
      is_back = ap (read_back x) (append_assoc os ps r) ∙ f.is_back ∙ ap (λ (y : List Shown). xs ++ y) g.is_back ∙ sym (append_assoc xs ys (read_back x r));
      lie = λ i. ap (all_lie x) (append_assoc os ps r) ∙ f.lie (g.lie i);
    }

commands_told : (l : ℕ) (x : List ℕ) (p : ℕ) (ds : List (List ℕ)) (z : List ℕ) (r : List Object) → drop p x ≡ written_commands ds ++ z → commands_fit ds ≡ true
    → Told x (commands_shown l ds) (command_objects l p ds) r
unfolding command_objects written_commands commands_fit
commands_told l x p [] z r h f = told_none x r
commands_told l x p (d ∷ ds) z r h f =
    let a = split x p (object command_tag d) (written_commands ds) z h in
    let b = both f in
    told_data command_tag l x p d (written_commands ds ++ z) command_data a.0 (leb-true _ _ b.0) (commands_shown l ds)
    (command_objects l (p + length (object command_tag d)) ds)
    r
    (commands_told l x (p + length (object command_tag d)) ds z r a.1 b.1)

identifier_told : (l : ℕ) (x : List ℕ) (p : ℕ) (i : Option (List ℕ)) (z : List ℕ) (r : List Object) → drop p x ≡ written_identifier i ++ z
    → identifier_fits i ≡ true
    → Told x (identifier_shown l i) (identifier_objects l p i) r
unfolding identifier_objects written_identifier identifier_fits largest
identifier_told l x p none z r h f = told_none x r
identifier_told l x p (some d) z r h f =
    let n : length d ≡ 4 = eqb-true _ _ f in
    told_data identifier_tag l x p d z identifier_data h (omega arith) [] [] r (told_none x r)

script_told : (l : ℕ) (x : List ℕ) (p : ℕ) (v : Script) (z : List ℕ) (r : List Object) → drop p x ≡ written_script v ++ z → script_fits v ≡ true
    → Told x (script_shown l v) (script_objects l p v) r
unfolding script_objects written_script script_fits
script_told l x p v z r h f =
    let a = split x p (written_identifier v.identifier) (written_commands v.commands) z h in
    let c = both {a = leb (length (written_script v)) largest} f in
    let b = both c.1 in
    let q = p + length (written_identifier v.identifier) in
    told_both x (identifier_shown l v.identifier) (commands_shown l v.commands) (identifier_objects l p v.identifier) (command_objects l q v.commands) r
    (identifier_told l x p v.identifier (written_commands v.commands ++ z) (command_objects l q v.commands ++ r) a.0 b.0)
    (commands_told l x q v.commands z r a.1 b.1)

-- what is in a template at level l is as long as it is written
pub held_within : (l : ℕ) (n : ℕ) (os ys r : List Object) → first_level (ys ++ r) ≤ l → bytes_within l (os ++ (ys ++ r)) ≡ n + bytes_within l (ys ++ r)
    → bytes_within l ((os ++ ys) ++ r) ≡ n
held_within l n os ys r f e =
    let a = ap (bytes_within l) (append_assoc os ys r) in
    let b = shut l (ys ++ r) f in
    omega arith

pub tree_told : (l : ℕ) (x : List ℕ) (p : ℕ) (t : Templates) (z : List ℕ) (r : List Object) → drop p x ≡ written t ++ z → fits t ≡ true → first_level r ≤ l
    → Told x (tree_shown l t) (objects_of l p t) r
unfolding objects_of written fits
tree_told l x p nothing z r h f g = told_none x r
tree_told l x p (script k v t) z r h f g =
    let w = written_script v in
    let a = split x p (object (kind_tag k) w) (written t) z h in
    let b = both {a = script_fits v} f in
    let j = p + head_size (kind_tag k) (length w) in
    let q = p + length (object (kind_tag k) w) in
    let os = script_objects (l + 1) j v in
    let ys = objects_of l q t in
    let i = first_level_lem t l q r g in
    told_template (kind_tag k) l x p (length w) (kind_no_data k) (script_shown (l + 1) v ++ tree_shown l t) (os ++ ys) r
    (held_within l (length w) os ys r i (script_within (l + 1) j v (ys ++ r) l (omega arith)))
    (told_both x (script_shown (l + 1) v) (tree_shown l t) os ys r
    (script_told (l + 1) x j v (written t ++ z) (ys ++ r) (inside (kind_tag k) x p w (written t ++ z) a.0) b.0)
    (tree_told l x q t z r a.1 b.1 g))
tree_told l x p (outer u t) z r h f g =
    let w = written u in
    let a = split x p (object outer_tag w) (written t) z h in
    let c = both {a = leb (length (written u)) largest} f in
    let b = both {a = fits u} c.1 in
    let j = p + head_size outer_tag (length w) in
    let q = p + length (object outer_tag w) in
    let os = objects_of (l + 1) j u in
    let ys = objects_of l q t in
    let i = first_level_lem t l q r g in
    told_template outer_tag l x p (length w) outer_no_data (tree_shown (l + 1) u ++ tree_shown l t) (os ++ ys) r
    (held_within l (length w) os ys r i (tree_within u (l + 1) j (ys ++ r) l (omega arith) (omega arith)))
    (told_both x (tree_shown (l + 1) u) (tree_shown l t) os ys r
    (tree_told (l + 1) x j u (written t ++ z) (ys ++ r) (inside outer_tag x p w (written t ++ z) a.0) b.0 (omega arith))
    (tree_told l x q t z r a.1 b.1 g))

-- a whole tree
pub whole_told : (t : Templates) → fits t ≡ true → Told (written t) (tree_shown 1 t) (objects_of 1 0 t) []
whole_told t f = tree_told 1 (written t) 0 t [] [] (sym (append-nil (written t))) f (omega arith)

pub tree_given : (t : Templates) → fits t ≡ true → given (written t) (objects_of 1 0 t) ≡ tree_shown 1 t
unfolding given
tree_given t f =
    ap (given (written t)) (sym (append-nil (objects_of 1 0 t))) ∙ (whole_told t f).is_given ∙ append-nil (tree_shown 1 t)

pub tree_back : (t : Templates) → fits t ≡ true → read_back (written t) (objects_of 1 0 t) ≡ tree_shown 1 t
unfolding read_back
tree_back t f =
    ap (read_back (written t)) (sym (append-nil (objects_of 1 0 t))) ∙ (whole_told t f).is_back ∙ append-nil (tree_shown 1 t)

pub tree_lie : (t : Templates) → fits t ≡ true → all_lie (written t) (objects_of 1 0 t) ≡ true
unfolding all_lie
tree_lie t f = ap (all_lie (written t)) (sym (append-nil (objects_of 1 0 t))) ∙ (whole_told t f).lie refl

pub tree_again : (t : Templates) → fits t ≡ true → bytes_of (written t) (objects_of 1 0 t) ≡ written t
tree_again t f = spelled-given (written t) (objects_of 1 0 t) ∙ ap spelled (tree_given t f) ∙ spelled-tree 1 t
