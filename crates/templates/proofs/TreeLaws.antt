-- A tree of the grammar that is written is read, and gives its objects. Assumes nothing.
use Rattle.std.specs.Prelude.{None, Result, Ok}
use Rattle.std.specs.Option.{is_some}
use Rattle.answers.specs.declared.Refusal.{Refusal}
use mathlib.Core.Path.{◌≡◌, refl, sym, ap, ap₂, subst, ◌∙◌}
use mathlib.Core.Bool.{Bool, true, false, cond}
use mathlib.Core.List.{List, [], ◌∷◌, ◌++◌}
use mathlib.Core.Option.{Option, none, some}
use Prim.Native.Nat.{ℕ, ◌+◌, ◌≤◌, ◌<◌}
use native.Mathlib.Omega.{arith}
use borrow.Author.Tests.{eqb-true, leb-true}
use lib.Dec.{leb}
use lib.ListN.{length, drop, length-append}
use Rattle.shapes.specs.Length.{largest}
use Rattle.templates.specs.declared.Holder.{Holder}
use Rattle.templates.specs.declared.Holder.TheVariants.{Outer, Fresh, Begun}
use Rattle.templates.specs.declared.Head.{Head}
use Rattle.templates.specs.declared.Object.{Object}
use Rattle.templates.specs.declared.Read.{Read}
use Rattle.templates.specs.Grammar.{Kind, template1, template2, Script, Templates, nothing, script, outer, kind_tag, outer_tag, command_tag, identifier_tag, object, written_identifier, written_commands, written_script, written, identifier_fits, commands_fit, script_fits, fits, head_size, object_at, identifier_objects, command_objects, script_objects, objects_of, down_to}
use Rattle.templates.specs.Reading.{stands, after, is_template, within, head_for, head_of, length_fits, good, verdict, kept, entered, object_read, onward, read_all}
use Rattle.templates.proofs.HeadLaws.{both, joined, head_small, length-object, head_read, data_read, rest_read}
use Rattle.templates.proofs.ReadLaws.{read_none, read_step, parts_good, good_judged}

-- objects kept one after the other
abbrev pub filled : Read → List Object → Read
filled r [] = r
filled r (o ∷ os) = filled (kept o r) os

pub filled-append : (r : Read) (s t : List Object) → filled r (s ++ t) ≡ filled (filled r s) t
filled-append r [] t = refl
filled-append r (o ∷ s) t = filled-append (kept o r) s t

pub filled-count : (r : Read) (s : List Object) → (filled r s).count ≡ r.count + length s
unfolding kept
filled-count r [] = omega arith
filled-count r (o ∷ s) = let e = filled-count (kept o r) s in omega arith

pub filled-fault : (r : Read) (s : List Object) → (filled r s).fault ≡ r.fault
unfolding kept
filled-fault r [] = refl
filled-fault r (o ∷ s) = filled-fault (kept o r) s

-- there is room for objects, none of which is too deep
pub record Fitting (s : List Object) (r : Read) : Type 0 where
  pub deep : down_to 4 s ≡ true
  pub few : r.count + length s ≤ 32
  pub sane : r.fault ≡ None

pub record Next (o : Object) (s : List Object) (r : Read) : Type 0 where
  pub level : o.level ≤ 4
  pub few : r.count < 32
  pub rest : Fitting s (kept o r)

pub next : (o : Object) (s : List Object) (r : Read) → Fitting (o ∷ s) r → Next o s r
unfolding down_to kept
next o s r f =
    let a = both f.deep in
    let n = f.few in
    record { level = leb-true _ _ a.0; few = omega arith; rest = record { deep = a.1; few = omega arith; sane = f.sane } }

down_first : (n : ℕ) (s t : List Object) → down_to n (s ++ t) ≡ true → down_to n s ≡ true
unfolding down_to
down_first n [] t e = refl
down_first n (o ∷ s) t e = let a = both {a = leb o.level n} e in joined {a = leb o.level n} (a.0, down_first n s t a.1)

down_last : (n : ℕ) (s t : List Object) → down_to n (s ++ t) ≡ true → down_to n t ≡ true
unfolding down_to
down_last n [] t e = e
down_last n (o ∷ s) t e = down_last n s t (both {a = leb o.level n} e).1

pub fitting-first : (s t : List Object) (r : Read) → Fitting (s ++ t) r → Fitting s r
fitting-first s t r f =
    let a = length-append s t in
    let n = f.few in
    record { deep = down_first 4 s t f.deep; few = omega arith; sane = f.sane }

pub fitting-last : (s t : List Object) (r : Read) → Fitting (s ++ t) r → Fitting t (filled r s)
fitting-last s t r f =
    let a = length-append s t in
    let b = filled-count r s in
    let n = f.few in
    record { deep = down_last 4 s t f.deep; few = omega arith; sane = filled-fault r s ∙ f.sane }

-- an object that is written, and what follows it
module _ (h : Holder) (t : ℕ) (d s : List ℕ) (l p : ℕ) (r : Read) (w : stands h t ≡ true) (m : length d ≤ largest) (f : length_fits t (length d) ≡ true)
    (deep : l ≤ 4) (few : r.count < 32) where
  abbrev pub x : List ℕ
  x = object t d ++ s

  abbrev pub n : ℕ
  n = length d

  abbrev pub o : Object
  o = object_at t l p (length d)

  sized : length x ≡ head_size t n + n + length s
  sized = let a = length-append (object t d) s in let b = length-object t d in omega arith

  some_bytes : length x ≡ 0 → ⊥
  some_bytes e = let a = sized in let b = (head_small t n).least in omega arith

  accepted : (e : Head) → e ≡ head_for t n → verdict (good h e (length x)) l r.count ≡ Ok tt
  unfolding head_for
  accepted e i =
      let a = sized in
      ap (λ (z : Head). verdict (good h z (length x)) l r.count) i
      ∙ good_judged (good h (head_for t n) (length x)) l r.count (parts_good h (head_for t n) (length x) w m (omega arith) f) deep few

  object_step : (e : Head) → e ≡ head_for t n
      → entered read_all e (verdict (good h e (length x)) l r.count) l p x r
      ≡ cond (is_template t) (read_all (within t) (l + 1) (p + head_size t n) d (kept o r)) (kept o r)
  unfolding head_for entered
  object_step e i =
      ap₂ (λ (z : Head) (k : Result (Unit {0}) Refusal). entered read_all z k l p x r) i (accepted e i)
      ∙ ap (λ (y : List ℕ). cond (is_template t) (read_all (within t) (l + 1) (p + head_size t n) y (kept o r)) (kept o r)) (data_read t d s)

  pub object_read_lem : is_template t ≡ true → object_read read_all h l p x r ≡ read_all (within t) (l + 1) (p + head_size t n) d (kept o r)
  unfolding object_read
  object_read_lem e =
      object_step (head_of x) (head_read h t d s w m)
      ∙ ap (λ (b : Bool). cond b (read_all (within t) (l + 1) (p + head_size t n) d (kept o r)) (kept o r)) e

  read_object_lem : (q : Read) → cond (is_template t) (read_all (within t) (l + 1) (p + head_size t n) d (kept o r)) (kept o r) ≡ q → q.fault ≡ None
      → read_all h l p x r ≡ read_all (after h) l (p + length (object t d)) s q
  unfolding head_for object_read onward
  read_object_lem q e c =
      let i : head_of x ≡ head_for t n = head_read h t d s w m in
      read_step h l p x r some_bytes
      ∙ ap₂ (λ (z : Head) (y : Read). onward read_all z h l p x y) i (object_step (head_of x) i ∙ e)
      ∙ ap (λ (b : Bool). cond b q (read_all (after h) l (p + (head_size t n + n)) (drop (head_size t n + n) x) q)) (ap is_some c)
      ∙ ap₂ (λ (k : ℕ) (y : List ℕ). read_all (after h) l (p + k) y q) (sym (length-object t d)) (rest_read t d s)

  pub read_data : is_template t ≡ false → r.fault ≡ None → read_all h l p x r ≡ read_all (after h) l (p + length (object t d)) s (kept o r)
  unfolding kept
  read_data e c =
      read_object_lem (kept o r)
      (ap (λ (b : Bool). cond b (read_all (within t) (l + 1) (p + head_size t n) d (kept o r)) (kept o r)) e)
      c

  pub read_template_lem : is_template t ≡ true → (q : Read) → read_all (within t) (l + 1) (p + head_size t n) d (kept o r) ≡ q → q.fault ≡ None
      → read_all h l p x r ≡ read_all (after h) l (p + length (object t d)) s q
  read_template_lem e q i c =
      read_object_lem q (ap (λ (b : Bool). cond b (read_all (within t) (l + 1) (p + head_size t n) d (kept o r)) (kept o r)) e ∙ i) c

read_nothing : (h : Holder) (l p : ℕ) (r : Read) → read_all h l p [] r ≡ r
read_nothing h l p r = sym (read_none h l p [] r refl)

-- commands, in a 71 or 72 that may hold something already
pub commands_read : (h : Holder) → stands h command_tag ≡ true → after h ≡ Begun
    → (ds : List (List ℕ)) (l p : ℕ) (r : Read) → commands_fit ds ≡ true → Fitting (command_objects l p ds) r
    → read_all h l p (written_commands ds) r ≡ filled r (command_objects l p ds)
unfolding written_commands command_objects commands_fit stands after is_template length_fits object_at
commands_read h w a [] l p r m f = read_nothing h l p r
commands_read h w a (d ∷ ds) l p r m f =
    let o = object_at command_tag l p (length d) in
    let q = p + length (object command_tag d) in
    let g = next o (command_objects l q ds) r f in
    let b = both m in
    read_data h command_tag d (written_commands ds) l p r w (leb-true _ _ b.0) refl g.level g.few refl f.sane
    ∙ ap (λ (k : Holder). read_all k l q (written_commands ds) (kept o r)) a
    ∙ commands_read Begun refl refl ds l q (kept o r) b.1 g.rest

pub four_small : (d : List ℕ) → length d ≡ 4 → length d ≤ largest
unfolding largest
four_small d e = omega arith

-- what a 71 or 72 holds: commands, after an identifier or none
script_parts : (ds : List (List ℕ)) (l p : ℕ) (r : Read) (i : Option (List ℕ)) → identifier_fits i ≡ true → commands_fit ds ≡ true
    → Fitting (identifier_objects l p i ++ command_objects l (p + length (written_identifier i)) ds) r
    → read_all Fresh l p (written_identifier i ++ written_commands ds) r
    ≡ filled r (identifier_objects l p i ++ command_objects l (p + length (written_identifier i)) ds)
unfolding identifier_fits identifier_objects written_identifier stands after is_template length_fits object_at
script_parts ds l p r none m c f =
    subst (λ (q : ℕ). Fitting (command_objects l q ds) r → read_all Fresh l p (written_commands ds) r ≡ filled r (command_objects l q ds))
    (omega arith) (commands_read Fresh refl refl ds l p r c) f
script_parts ds l p r (some d) m c f =
    let o = object_at identifier_tag l p (length d) in
    let q = p + length (object identifier_tag d) in
    let g = next o (command_objects l q ds) r f in
    let n = eqb-true _ _ m in
    read_data Fresh identifier_tag d (written_commands ds) l p r refl (four_small d n) m g.level g.few refl f.sane
    ∙ commands_read Begun refl refl ds l q (kept o r) c g.rest

pub script_read : (s : Script) (l p : ℕ) (r : Read) → script_fits s ≡ true → Fitting (script_objects l p s) r
    → read_all Fresh l p (written_script s) r ≡ filled r (script_objects l p s)
unfolding script_fits written_script script_objects
script_read s l p r m f =
    let a = both (both {a = leb (length (written_script s)) largest} m).1 in
    script_parts s.commands l p r s.identifier a.0 a.1 f

pub script_most : (s : Script) → script_fits s ≡ true → length (written_script s) ≤ largest
unfolding script_fits
script_most s m = leb-true _ _ (both m).0

pub kind_stands : (k : Kind) → stands Outer (kind_tag k) ≡ true
unfolding stands
kind_stands template1 = refl
kind_stands template2 = refl

pub kind_read : (k : Kind) (d s : List ℕ) (l p : ℕ) (r : Read) → length d ≤ largest → l ≤ 4 → r.count < 32
    → object_read read_all Outer l p (object (kind_tag k) d ++ s) r
    ≡ read_all Fresh (l + 1) (p + head_size (kind_tag k) (length d)) d (kept (object_at (kind_tag k) l p (length d)) r)
unfolding stands is_template within length_fits
kind_read template1 d s l p r m v c = object_read_lem Outer (kind_tag template1) d s l p r refl m refl v c refl
kind_read template2 d s l p r m v c = object_read_lem Outer (kind_tag template2) d s l p r refl m refl v c refl

-- a 71 or 72 that holds d, which is read to q
pub script_turn : (k : Kind) (d s : List ℕ) (l p : ℕ) (r q : Read) → length d ≤ largest → l ≤ 4 → r.count < 32
    → read_all Fresh (l + 1) (p + head_size (kind_tag k) (length d)) d (kept (object_at (kind_tag k) l p (length d)) r) ≡ q → q.fault ≡ None
    → read_all Outer l p (object (kind_tag k) d ++ s) r ≡ read_all Outer l (p + length (object (kind_tag k) d)) s q
unfolding stands after is_template within length_fits
script_turn template1 d s l p r q m v c e z = read_template_lem Outer (kind_tag template1) d s l p r refl m refl v c refl q e z
script_turn template2 d s l p r q m v c e z = read_template_lem Outer (kind_tag template2) d s l p r refl m refl v c refl q e z

-- templates, at the top or in an e1
pub templates_read : (t : Templates) (l p : ℕ) (r : Read) → fits t ≡ true → Fitting (objects_of l p t) r
    → read_all Outer l p (written t) r ≡ filled r (objects_of l p t)
unfolding written objects_of fits stands after is_template within length_fits object_at
templates_read nothing l p r m f = read_nothing Outer l p r
templates_read (script k s t) l p r m f =
    let d = written_script s in
    let o = object_at (kind_tag k) l p (length d) in
    let q = p + length (object (kind_tag k) d) in
    let i = script_objects (l + 1) (p + head_size (kind_tag k) (length d)) s in
    let g = next o (i ++ objects_of l q t) r f in
    let b = both m in
    let c = filled (kept o r) i in
    let z = fitting-last i (objects_of l q t) (kept o r) g.rest in
    script_turn k d (written t) l p r c (script_most s b.0) g.level g.few
    (script_read s (l + 1) (p + head_size (kind_tag k) (length d)) (kept o r) b.0 (fitting-first i (objects_of l q t) (kept o r) g.rest))
    z.sane
    ∙ templates_read t l q c b.1 z
    ∙ sym (filled-append (kept o r) i (objects_of l q t))
templates_read (outer i t) l p r m f =
    let d = written i in
    let o = object_at outer_tag l p (length d) in
    let q = p + length (object outer_tag d) in
    let j = objects_of (l + 1) (p + head_size outer_tag (length d)) i in
    let g = next o (j ++ objects_of l q t) r f in
    let a = both m in
    let b = both a.1 in
    let c = filled (kept o r) j in
    let z = fitting-last j (objects_of l q t) (kept o r) g.rest in
    read_template_lem Outer outer_tag d (written t) l p r refl (leb-true _ _ a.0) refl g.level g.few refl c
    (templates_read i (l + 1) (p + head_size outer_tag (length d)) (kept o r) b.0 (fitting-first j (objects_of l q t) (kept o r) g.rest))
    z.sane
    ∙ templates_read t l q c b.1 z
    ∙ sym (filled-append (kept o r) j (objects_of l q t))
