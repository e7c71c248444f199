-- The tree that bytes are written of: there is no other, and what is accepted has one. Assumes nothing.
use Rattle.std.specs.Prelude.{Ok}
use mathlib.Core.Path.{◌≡◌, refl, sym, ap, ap₂, subst, ◌∙◌}
use mathlib.Core.Bool.{Bool, true, false, ◌&&◌, ◌||◌, cond, true≢false}
use mathlib.Core.List.{List, [], ◌∷◌, ◌++◌}
use mathlib.Core.Option.{Option, none, some}
use Prim.Native.Nat.{ℕ, zero, suc, ◌+◌, ◌≤◌, ◌<◌}
use native.Mathlib.Omega.{arith}
use borrow.Author.Tests.{eqb-true, leb-true}
use lib.Dec.{eqb, leb}
use lib.ListN.{length, get_or, take, drop, length-append, length-drop, take-append-drop}
use lib.Seq.{length-take-le, drop-drop}
use Rattle.octets.specs.Numbers.{Octets}
use Rattle.octets.proofs.Parts.{elements_part, octets-take, octets-drop}
use Rattle.shapes.specs.Length.{largest, length_field}
use Rattle.shapes.specs.Shape.{length_of, place_of}
use Rattle.shapes.proofs.LengthLaws.{place_is, field_read}
use Rattle.templates.specs.declared.Holder.{Holder}
use Rattle.templates.specs.declared.Holder.TheVariants.{Outer, Fresh, Begun}
use Rattle.templates.specs.declared.Head.{Head}
use Rattle.templates.specs.Grammar.{Kind, template1, template2, Script, Templates, nothing, script, outer, kind_tag, outer_tag, command_tag, identifier_tag, tag_bytes, object, written_identifier, written_commands, written_script, written, identifier_fits, commands_fit, script_fits, fits, head_size}
use Rattle.templates.specs.Reading.{stands, tag_in, ahead, head_for, head_of, length_fits, good, verdict}
use Rattle.templates.proofs.HeadLaws.{both, Tagged, one, two, tagged, length-tag, head_size_lem, head_small, length-object, object_then, head_read, data_read, rest_read}
use Rattle.templates.proofs.ReadLaws.{judged_parts}
use Rattle.templates.proofs.TreeLaws.{four_small, script_most}

-- data of the object that bytes begin with, and what follows it
abbrev pub data_in : List ℕ → List ℕ
data_in xs = take (head_of xs).length (drop (head_of xs).size xs)

abbrev pub rest_in : List ℕ → List ℕ
rest_in xs = drop ((head_of xs).size + (head_of xs).length) xs

-- the tree of bytes, in no more than k objects one in or after the other
abbrev pub commands_in : ℕ → List ℕ → List (List ℕ)
commands_in zero xs = []
commands_in (suc k) [] = []
commands_in (suc k) (x ∷ xs) = data_in (x ∷ xs) ∷ commands_in k (rest_in (x ∷ xs))

abbrev pub script_in : ℕ → List ℕ → Script
script_in k xs =
    cond (eqb (tag_in xs) identifier_tag)
    (record { identifier = some (data_in xs); commands = commands_in k (rest_in xs) })
    (record { identifier = none; commands = commands_in k xs })

abbrev pub tree_for : ℕ → List ℕ → Templates → Templates → Templates
tree_for k xs i t =
    cond (eqb (tag_in xs) outer_tag) (outer i t)
    (cond (eqb (tag_in xs) 0x71) (script template1 (script_in k (data_in xs)) t) (script template2 (script_in k (data_in xs)) t))

abbrev pub templates_in : ℕ → List ℕ → Templates
templates_in zero xs = nothing
templates_in (suc k) [] = nothing
templates_in (suc k) (x ∷ xs) = tree_for k (x ∷ xs) (templates_in k (data_in (x ∷ xs))) (templates_in k (rest_in (x ∷ xs)))

pub commands_none : (k : ℕ) → commands_in k [] ≡ []
commands_none zero = refl
commands_none (suc k) = refl

pub templates_none : (k : ℕ) → templates_in k [] ≡ nothing
templates_none zero = refl
templates_none (suc k) = refl

commands_step : (k : ℕ) (xs : List ℕ) → (length xs ≡ 0 → ⊥) → commands_in (suc k) xs ≡ data_in xs ∷ commands_in k (rest_in xs)
commands_step k [] n = absurd (n refl)
commands_step k (x ∷ xs) n = refl

templates_step : (k : ℕ) (xs : List ℕ) → (length xs ≡ 0 → ⊥) → templates_in (suc k) xs ≡ tree_for k xs (templates_in k (data_in xs)) (templates_in k (rest_in xs))
templates_step k [] n = absurd (n refl)
templates_step k (x ∷ xs) n = refl

-- of an object that is written
module _ (h : Holder) (t : ℕ) (d s : List ℕ) (w : stands h t ≡ true) (m : length d ≤ largest) where
  abbrev pub x : List ℕ
  x = object t d ++ s

  head_is : head_of x ≡ head_for t (length d)
  head_is = head_read h t d s w m

  data_is : data_in x ≡ d
  unfolding head_for
  data_is = ap (λ (e : Head). take e.length (drop e.size x)) head_is ∙ data_read t d s

  rest_is : rest_in x ≡ s
  unfolding head_for
  rest_is = ap (λ (e : Head). drop (e.size + e.length) x) head_is ∙ rest_read t d s

  pub tag_is : tag_in x ≡ t
  unfolding head_for head_of
  tag_is = ap (λ (e : Head). e.tag) head_is

  long_is : length x ≡ head_size t (length d) + length d + length s
  long_is = let a = length-append (object t d) s in let b = length-object t d in omega arith

  pub some_is : length x ≡ 0 → ⊥
  some_is e = let a = long_is in let b = (head_small t (length d)).least in omega arith

  pub commands_of : (k : ℕ) → commands_in (suc k) x ≡ d ∷ commands_in k s
  commands_of k = commands_step k x some_is ∙ ap₂ (λ (y z : List ℕ). y ∷ commands_in k z) data_is rest_is

  pub templates_of : (k : ℕ) → templates_in (suc k) x
      ≡ cond (eqb t outer_tag) (outer (templates_in k d) (templates_in k s))
      (cond (eqb t 0x71) (script template1 (script_in k d) (templates_in k s)) (script template2 (script_in k d) (templates_in k s)))
  templates_of k =
      templates_step k x some_is
      ∙ ap (λ (u : ℕ). cond (eqb u outer_tag) (outer (templates_in k (data_in x)) (templates_in k (rest_in x)))
      (cond (eqb u 0x71) (script template1 (script_in k (data_in x)) (templates_in k (rest_in x))) (script template2 (script_in k (data_in x)) (templates_in k (rest_in x))))) tag_is
      ∙ ap₂ (λ (y z : List ℕ). cond (eqb t outer_tag) (outer (templates_in k y) (templates_in k z))
      (cond (eqb t 0x71) (script template1 (script_in k y) (templates_in k z)) (script template2 (script_in k y) (templates_in k z)))) data_is rest_is

-- a script by its first tag
pub script_plain : (k : ℕ) (xs : List ℕ) → eqb (tag_in xs) identifier_tag ≡ false → script_in k xs ≡ record { identifier = none; commands = commands_in k xs }
script_plain k xs e =
    ap (λ (b : Bool). cond b (record { identifier = some (data_in xs); commands = commands_in k (rest_in xs) }) (record { identifier = none; commands = commands_in k xs })) e

pub script_of : (k : ℕ) (d s : List ℕ) → length d ≤ largest
    → script_in k (object identifier_tag d ++ s) ≡ record { identifier = some d; commands = commands_in k s }
unfolding stands
script_of k d s m =
    let x = object identifier_tag d ++ s in
    ap (λ (u : ℕ). cond (eqb u identifier_tag) (record { identifier = some (data_in x); commands = commands_in k (rest_in x) }) (record { identifier = none; commands = commands_in k x }))
    (tag_is Fresh identifier_tag d s refl m)
    ∙ ap₂ (λ (y z : List ℕ). record { identifier = some y; commands = commands_in k z }) (data_is Fresh identifier_tag d s refl m) (rest_is Fresh identifier_tag d s refl m)

pub identifier_some : (xs : List ℕ) → eqb (tag_in xs) identifier_tag ≡ true → length xs ≡ 0 → ⊥
unfolding tag_in
identifier_some [] e n = true≢false (sym e)
identifier_some (x ∷ xs) e n = omega (arith, n)

-- the tree of what is written is the one that it was written of
pub commands_parsed : (ds : List (List ℕ)) (k : ℕ) → commands_fit ds ≡ true → length (written_commands ds) ≤ k → commands_in k (written_commands ds) ≡ ds
unfolding commands_fit written_commands stands
commands_parsed [] k m n = commands_none k
commands_parsed (d ∷ ds) zero m n =
    let a = length-append (object command_tag d) (written_commands ds) in
    let b = length-object command_tag d in
    let c = (head_small command_tag (length d)).least in
    absurd (omega arith)
commands_parsed (d ∷ ds) (suc k) m n =
    let a = length-append (object command_tag d) (written_commands ds) in
    let b = length-object command_tag d in
    let c = (head_small command_tag (length d)).least in
    let f = both m in
    commands_of Begun command_tag d (written_commands ds) refl (leb-true _ _ f.0) k
    ∙ ap (λ (z : List (List ℕ)). d ∷ z) (commands_parsed ds k f.1 (omega arith))

not_identifier : (ds : List (List ℕ)) → commands_fit ds ≡ true → eqb (tag_in (written_commands ds)) identifier_tag ≡ false
unfolding commands_fit written_commands stands tag_in
not_identifier [] m = refl
not_identifier (d ∷ ds) m =
    ap (λ (u : ℕ). eqb u identifier_tag) (tag_is Begun command_tag d (written_commands ds) refl (leb-true _ _ (both m).0))

script_parsed : (i : Option (List ℕ)) (ds : List (List ℕ)) (k : ℕ) → identifier_fits i ≡ true → commands_fit ds ≡ true
    → length (written_identifier i ++ written_commands ds) ≤ k
    → script_in k (written_identifier i ++ written_commands ds) ≡ record { identifier = i; commands = ds }
unfolding identifier_fits written_identifier stands
script_parsed none ds k a m n =
    script_plain k (written_commands ds) (not_identifier ds m)
    ∙ ap (λ (z : List (List ℕ)). record { identifier = none; commands = z }) (commands_parsed ds k m n)
script_parsed (some d) ds k a m n =
    let v = length-append (object identifier_tag d) (written_commands ds) in
    script_of k d (written_commands ds) (four_small d (eqb-true _ _ a))
    ∙ ap (λ (z : List (List ℕ)). record { identifier = some d; commands = z }) (commands_parsed ds k m (omega arith))

whole_script : (s : Script) (k : ℕ) → script_fits s ≡ true → length (written_script s) ≤ k → script_in k (written_script s) ≡ s
unfolding script_fits written_script
whole_script s k m n =
    let a = both (both {a = leb (length (written_script s)) largest} m).1 in
    script_parsed s.identifier s.commands k a.0 a.1 n

pub kind_parsed : (c : Kind) (d s : List ℕ) (k : ℕ) → length d ≤ largest
    → templates_in (suc k) (object (kind_tag c) d ++ s) ≡ script c (script_in k d) (templates_in k s)
unfolding stands
kind_parsed template1 d s k m = templates_of Outer (kind_tag template1) d s refl m k
kind_parsed template2 d s k m = templates_of Outer (kind_tag template2) d s refl m k

pub templates_parsed : (t : Templates) (k : ℕ) → fits t ≡ true → length (written t) ≤ k → templates_in k (written t) ≡ t
unfolding fits written stands
templates_parsed nothing k m n = templates_none k
templates_parsed (script c s t) zero m n =
    let a = length-append (object (kind_tag c) (written_script s)) (written t) in
    let b = length-object (kind_tag c) (written_script s) in
    let d = (head_small (kind_tag c) (length (written_script s))).least in
    absurd (omega arith)
templates_parsed (outer i t) zero m n =
    let a = length-append (object outer_tag (written i)) (written t) in
    let b = length-object outer_tag (written i) in
    let d = (head_small outer_tag (length (written i))).least in
    absurd (omega arith)
templates_parsed (script c s t) (suc k) m n =
    let a = length-append (object (kind_tag c) (written_script s)) (written t) in
    let b = length-object (kind_tag c) (written_script s) in
    let d = (head_small (kind_tag c) (length (written_script s))).least in
    let f = both m in
    kind_parsed c (written_script s) (written t) k (script_most s f.0)
    ∙ ap₂ (λ (y : Script) (z : Templates). script c y z) (whole_script s k f.0 (omega arith)) (templates_parsed t k f.1 (omega arith))
templates_parsed (outer i t) (suc k) m n =
    let a = length-append (object outer_tag (written i)) (written t) in
    let b = length-object outer_tag (written i) in
    let d = (head_small outer_tag (length (written i))).least in
    let f = both m in
    let g = both f.1 in
    templates_of Outer outer_tag (written i) (written t) refl (leb-true _ _ f.0) k
    ∙ ap₂ outer (templates_parsed i k g.0 (omega arith)) (templates_parsed t k g.1 (omega arith))

-- bytes that begin with a good object are that object, as it is written, and the rest
pub record Front (h : Holder) (l c : ℕ) (xs : List ℕ) : Type 0 where
  pub tag : ℕ
  pub held : List ℕ
  pub rest : List ℕ
  pub is : xs ≡ object tag held ++ rest
  pub stood : stands h tag ≡ true
  pub most : length held ≤ largest
  pub long : length_fits tag (length held) ≡ true
  pub deep : l ≤ 4
  pub few : c < 32
  pub held_octets : Octets held
  pub rest_octets : Octets rest

-- the tags that stand somewhere
pub data InOuter (t : ℕ) : Type 0 where
  a_script : (k : Kind) → t ≡ kind_tag k → InOuter t
  an_outer : t ≡ outer_tag → InOuter t

pub data InFresh (t : ℕ) : Type 0 where
  an_identifier : t ≡ identifier_tag → InFresh t
  a_command : t ≡ command_tag → InFresh t

pub in_outer : (t : ℕ) → stands Outer t ≡ true → InOuter t
unfolding stands
in_outer t w = go (eqb t 0x71) refl (eqb t 0x72) refl (eqb t outer_tag) refl w
  where
    go : (a : Bool) → eqb t 0x71 ≡ a → (b : Bool) → eqb t 0x72 ≡ b → (c : Bool) → eqb t outer_tag ≡ c → (a || (b || c)) ≡ true → InOuter t
    go true e b f c g v = a_script template1 (eqb-true _ _ e)
    go false e true f c g v = a_script template2 (eqb-true _ _ f)
    go false e false f true g v = an_outer (eqb-true _ _ g)
    go false e false f false g v = absurd (true≢false (sym v))

pub in_fresh : (t : ℕ) → stands Fresh t ≡ true → InFresh t
unfolding stands
in_fresh t w = go (eqb t identifier_tag) refl (eqb t command_tag) refl w
  where
    go : (a : Bool) → eqb t identifier_tag ≡ a → (b : Bool) → eqb t command_tag ≡ b → (a || b) ≡ true → InFresh t
    go true e b f v = an_identifier (eqb-true _ _ e)
    go false e true f v = a_command (eqb-true _ _ f)
    go false e false f v = absurd (true≢false (sym v))

pub in_begun : (t : ℕ) → stands Begun t ≡ true → t ≡ command_tag
unfolding stands
in_begun t w = eqb-true _ _ w

tag_bytes_lem : (xs : List ℕ) → Octets xs → ahead (tag_in xs) + 1 ≤ length xs
    → take (ahead (tag_in xs) + 1) xs ≡ tag_bytes (tag_in xs)
unfolding tag_in
tag_bytes_lem xs o n = go (tagged (tag_in xs)) (eqb (get_or xs 0 0) 0x9f && eqb (get_or xs 1 0) 0x18) refl
  where
    test : Bool
    test = eqb (get_or xs 0 0) 0x9f && eqb (get_or xs 1 0) 0x18

    is : (b : Bool) → test ≡ b → tag_in xs ≡ cond b identifier_tag (get_or xs 0 0)
    is b e = ap (λ (x : Bool). cond x identifier_tag (get_or xs 0 0)) e

    go : Tagged (tag_in xs) → (b : Bool) → test ≡ b → take (ahead (tag_in xs) + 1) xs ≡ tag_bytes (tag_in xs)
    go (two i a b) true e =
        let p = both {a = eqb (get_or xs 0 0) 0x9f} e in
        ap (λ (k : ℕ). take (k + 1) xs) a ∙ elements_part xs 0 2 (omega arith)
        ∙ ap₂ (λ (x y : ℕ). x ∷ y ∷ []) (eqb-true _ _ p.0) (eqb-true _ _ p.1) ∙ sym b
    go (two i a b) false e = let v : get_or xs 0 0 ≡ identifier_tag = sym (is false e) ∙ i in absurd (omega (arith, o 0))
    go (one i a b) true e = absurd (i (is true e))
    go (one i a b) false e =
        ap (λ (k : ℕ). take (k + 1) xs) a ∙ elements_part xs 0 1 (omega arith) ∙ ap (λ (x : ℕ). x ∷ []) (sym (is false e)) ∙ sym b

-- tag, field, data and rest
front_whole : (xs : List ℕ) (t n : ℕ) → t ≡ tag_in xs → n ≡ length_of (drop (ahead t) xs) → Octets xs → n ≤ largest
    → head_size t n + n ≤ length xs
    → xs ≡ tag_bytes t ++ (length_field n ++ (take n (drop (head_size t n) xs) ++ drop (head_size t n + n) xs))
front_whole xs t n i j o m l =
    let a = length-tag t in
    let p = place_is n in
    let z = head_size_lem t n in
    let y = drop (ahead t) xs in
    let ly = length-drop (ahead t) xs in
    let f : take (length (length_field n)) (drop 1 y) ≡ length_field n
    = subst (λ (k : ℕ). take (length (length_field k)) (drop 1 y) ≡ length_field k) (sym j) (field_read y (omega (arith, j)) (subst (λ (k : ℕ). place_of k ≤ length y) j (omega arith))) in
    let b : take (ahead t + 1) xs ≡ tag_bytes t = subst (λ (u : ℕ). take (ahead u + 1) xs ≡ tag_bytes u) (sym i) (tag_bytes_lem xs o (subst (λ (u : ℕ). ahead u + 1 ≤ length xs) i (omega arith))) in
    let c : drop (ahead t + 1) xs ≡ drop 1 y = sym (drop-drop 1 (ahead t) xs) in
    let q = drop (ahead t + 1) xs in
    let v : head_size t n ≡ ahead t + 1 + length (length_field n) = omega arith in
    let e : drop (head_size t n) xs ≡ drop (length (length_field n)) q
    = ap (λ (k : ℕ). drop k xs) v ∙ sym (drop-drop (length (length_field n)) (ahead t + 1) xs) in
    let g : drop (head_size t n + n) xs ≡ drop n (drop (head_size t n) xs) = sym (drop-drop n (head_size t n) xs) in
    sym (take-append-drop (ahead t + 1) xs)
    ∙ ap₂ (λ (u v : List ℕ). u ++ v) b
    (sym (take-append-drop (length (length_field n)) q)
    ∙ ap₂ (λ (u v : List ℕ). u ++ v) (ap (take (length (length_field n))) c ∙ f)
    (sym e ∙ sym (take-append-drop n (drop (head_size t n) xs)) ∙ ap (λ (v : List ℕ). take n (drop (head_size t n) xs) ++ v) (sym g)))

pub front : (h : Holder) (l c : ℕ) (xs : List ℕ) → Octets xs → verdict (good h (head_of xs) (length xs)) l c ≡ Ok tt → Front h l c xs
unfolding head_of head_for
front h l c xs o e =
    let t = tag_in xs in
    let n = length_of (drop (ahead t) xs) in
    let j = judged_parts h (head_of xs) (length xs) l c e in
    let d = take n (drop (head_size t n) xs) in
    let s = drop (head_size t n + n) xs in
    let lr = j.room in
    let ld : length d ≡ n = length-take-le n (drop (head_size t n) xs) (let a = length-drop (head_size t n) xs in omega arith) in
    record {
      tag = t;
      held = d;
      rest = s;
      is = front_whole xs t n refl refl o j.most j.room
          ∙ ap (λ (k : ℕ). tag_bytes t ++ (length_field k ++ (d ++ s))) (sym ld)
          ∙ sym (object_then t d s);
      stood = j.stood;
      most = subst (λ (k : ℕ). k ≤ largest) (sym ld) j.most;
      long = subst (λ (k : ℕ). length_fits t k ≡ true) (sym ld) j.long;
      deep = j.deep;
      few = j.few;
      held_octets = octets-take n (drop (head_size t n) xs) (octets-drop (head_size t n) xs o);
      rest_octets = octets-drop (head_size t n + n) xs o;
    }

pub fresh_command : (t : ℕ) → stands Fresh t ≡ true → (t ≡ identifier_tag → ⊥) → t ≡ command_tag
fresh_command t w n = go (in_fresh t w)
  where
    go : InFresh t → t ≡ command_tag
    go (an_identifier e) = absurd (n e)
    go (a_command e) = e
