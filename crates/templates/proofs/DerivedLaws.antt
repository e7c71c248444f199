-- What is accepted is written of a tree of the grammar. Assumes nothing.
use Rattle.std.specs.Prelude.{None}
use Rattle.std.specs.Option.{is_some}
use mathlib.Core.Path.{◌≡◌, refl, sym, ap, ap₂, subst, ◌∙◌}
use mathlib.Core.Bool.{Bool, true, false}
use mathlib.Core.List.{List, [], ◌∷◌, ◌++◌}
use mathlib.Core.Option.{none, some}
use Prim.Native.Nat.{ℕ, zero, suc, ◌+◌, ◌≤◌, ◌<◌}
use native.Mathlib.Nat.{not-suc-le-zero}
use native.Mathlib.Omega.{arith}
use borrow.Author.Tests.{eqb-true, eqb-false, eq-eqb, le-leb}
use lib.Dec.{eqb}
use lib.ListN.{length, length-append}
use Rattle.octets.specs.Numbers.{Octets}
use Rattle.shapes.specs.Length.{largest}
use Rattle.templates.specs.declared.Holder.{Holder}
use Rattle.templates.specs.declared.Holder.TheVariants.{Outer, Fresh, Begun}
use Rattle.templates.specs.declared.Object.{Object}
use Rattle.templates.specs.declared.Read.{Read}
use Rattle.templates.specs.Grammar.{Kind, Script, Templates, script, outer, kind_tag, outer_tag, command_tag, identifier_tag, object, written_identifier, written_commands, written_script, written, identifier_fits, commands_fit, script_fits, fits, head_size, object_at, identifier_objects, command_objects, script_objects, objects_of, down_to}
use Rattle.templates.specs.Reading.{stands, after, is_template, within, tag_in, head_of, length_fits, kept, object_read, onward, read_all}
use Rattle.templates.proofs.HeadLaws.{joined, head_small, length-object}
use Rattle.templates.proofs.ReadLaws.{read_step, read_fault, nothing_wrong}
use Rattle.templates.proofs.TreeLaws.{filled, filled-count, filled-fault, Fitting, next, object_read_lem, kind_read, kind_stands, read_data, read_template_lem, script_turn, script_read, templates_read}
use Rattle.templates.proofs.ParseLaws.{commands_in, script_in, templates_in, commands_none, templates_none, commands_of, templates_of, kind_parsed, script_of, script_plain, identifier_some, tag_is, some_is, Front, front, InOuter, a_script, an_outer, in_outer, fresh_command, in_begun}

-- an accepted reading begins with an accepted object, which is good
stop : (h : Holder) (l p : ℕ) (xs : List ℕ) (q : Read) → is_some q.fault ≡ true → q.fault ≡ (onward read_all (head_of xs) h l p xs q).fault
unfolding onward
stop h l p xs q w = simp w

object_fault : (h : Holder) (l p : ℕ) (xs : List ℕ) (r : Read) → (length xs ≡ 0 → ⊥) → (read_all h l p xs r).fault ≡ None → (object_read read_all h l p xs r).fault ≡ None
object_fault h l p xs r n e = go (is_some q.fault) refl
  where
    q : Read
    q = object_read read_all h l p xs r

    go : (b : Bool) → is_some q.fault ≡ b → q.fault ≡ None
    go false w = nothing_wrong q.fault w
    go true w = stop h l p xs q w ∙ ap (λ (z : Read). z.fault) (sym (read_step h l p xs r n)) ∙ e

accepted_front : (h : Holder) (l p : ℕ) (xs : List ℕ) (r : Read) → Octets xs → (length xs ≡ 0 → ⊥) → (read_all h l p xs r).fault ≡ None → Front h l r.count xs
accepted_front h l p xs r o n e = front h l r.count xs o (read_fault read_all h l p xs r (object_fault h l p xs r n e))

fitting-cons : (o : Object) (s : List Object) (r : Read) → o.level ≤ 4 → r.fault ≡ None → Fitting s (kept o r) → Fitting (o ∷ s) r
unfolding down_to kept
fitting-cons o s r l c f =
    let n = f.few in
    record { deep = joined (le-leb _ _ l, f.deep); few = omega arith; sane = c }

fitting-none : (r : Read) → r.count ≤ 32 → r.fault ≡ None → Fitting [] r
unfolding down_to
fitting-none r n c = record { deep = refl; few = omega arith; sane = c }

fitting-append : (s t : List Object) (r : Read) → Fitting s r → Fitting t (filled r s) → Fitting (s ++ t) r
unfolding down_to
fitting-append [] t r f g = g
fitting-append (o ∷ s) t r f g =
    let n = next o s r f in
    fitting-cons o (s ++ t) r n.level f.sane (fitting-append s t (kept o r) n.rest g)

kept_few : (o : Object) (r : Read) → r.count < 32 → (kept o r).count ≤ 32
unfolding kept
kept_few o r h = omega arith

kept_fault : (o : Object) (r : Read) → (kept o r).fault ≡ r.fault
unfolding kept
kept_fault o r = refl

filled-few : (s : List Object) (r : Read) → Fitting s r → (filled r s).count ≤ 32
filled-few s r f = let a = filled-count r s in let b = f.few in omega arith

-- commands
suc_not_zero : {n : ℕ} → suc n ≡ 0 → ⊥
suc_not_zero e = omega (arith, e)

pub record Commands (ds : List (List ℕ)) (l p : ℕ) (xs : List ℕ) (r : Read) : Type 0 where
  pub whole : written_commands ds ≡ xs
  pub fit : commands_fit ds ≡ true
  pub fitting : Fitting (command_objects l p ds) r

shorter : (k t : ℕ) (d s : List ℕ) → length (object t d ++ s) ≤ suc k → (length d ≤ k) × (length s ≤ k)
shorter k t d s n =
    let a = length-append (object t d) s in
    let b = length-object t d in
    let c = (head_small t (length d)).least in
    (omega arith, omega arith)

front_tag : (h : Holder) (l c : ℕ) (xs : List ℕ) (f : Front h l c xs) → tag_in xs ≡ f.tag
front_tag h l c xs f = ap tag_in f.is ∙ tag_is h f.tag f.held f.rest f.stood f.most

-- a command, and those after it
module _ (h : Holder) (a : after h ≡ Begun) (l p : ℕ) (r : Read) (c : r.fault ≡ None) (d s : List ℕ) (w : stands h command_tag ≡ true) (m : length d ≤ largest)
    (deep : l ≤ 4) (few : r.count < 32) where
  command_step : read_all h l p (object command_tag d ++ s) r
      ≡ read_all Begun l (p + length (object command_tag d)) s (kept (object_at command_tag l p (length d)) r)
  unfolding length_fits is_template stands
  command_step =
      read_data h command_tag d s l p r w m refl deep few refl c
      ∙ ap (λ (k : Holder). read_all k l (p + length (object command_tag d)) s (kept (object_at command_tag l p (length d)) r)) a

  command_turn : (ds : List (List ℕ)) → Commands ds l (p + length (object command_tag d)) s (kept (object_at command_tag l p (length d)) r)
      → Commands (d ∷ ds) l p (object command_tag d ++ s) r
  unfolding written_commands commands_fit command_objects object_at
  command_turn ds g =
      record {
        whole = ap (λ (y : List ℕ). object command_tag d ++ y) g.whole;
        fit = joined (le-leb _ _ m, g.fit);
        fitting = fitting-cons (object_at command_tag l p (length d)) (command_objects l (p + length (object command_tag d)) ds) r deep c g.fitting;
      }

fault_of : (h : Holder) (l p : ℕ) (xs ys : List ℕ) (r z : Read) → (read_all h l p xs r).fault ≡ None → xs ≡ ys → read_all h l p ys r ≡ z → z.fault ≡ None
fault_of h l p xs ys r z e i j = ap (λ (q : Read). q.fault) (sym j ∙ ap (λ (u : List ℕ). read_all h l p u r) (sym i)) ∙ e

abbrev pub CommandsRec : ℕ → Type 0
CommandsRec k = (h : Holder) → after h ≡ Begun → (xs : List ℕ) → ((t : ℕ) → tag_in xs ≡ t → stands h t ≡ true → t ≡ command_tag)
    → (l p : ℕ) (r : Read) → Octets xs → length xs ≤ k → r.count ≤ 32 → r.fault ≡ None → (read_all h l p xs r).fault ≡ None
    → Commands (commands_in k xs) l p xs r

no_commands : (k l p : ℕ) (r : Read) → r.count ≤ 32 → r.fault ≡ None → Commands (commands_in k []) l p [] r
unfolding written_commands commands_fit command_objects
no_commands k l p r m c =
    subst (λ (ds : List (List ℕ)). Commands ds l p [] r) (sym (commands_none k)) (record { whole = refl; fit = refl; fitting = fitting-none r m c })

commands_last : CommandsRec zero
commands_last h a [] only l p r o n m c e = no_commands zero l p r m c
commands_last h a (x ∷ xs) only l p r o n m c e = absurd (not-suc-le-zero n)

commands_next : (k : ℕ) → CommandsRec k → CommandsRec (suc k)
unfolding after
commands_next k rec h a [] only l p r o n m c e = no_commands (suc k) l p r m c
commands_next k rec h a (x ∷ xs) only l p r o n m c e =
    let f = accepted_front h l p (x ∷ xs) r o suc_not_zero e in
    let d = f.held in
    let s = f.rest in
    let i : f.tag ≡ command_tag = only f.tag (front_tag h l r.count (x ∷ xs) f) f.stood in
    let j : x ∷ xs ≡ object command_tag d ++ s = f.is ∙ ap (λ (u : ℕ). object u d ++ s) i in
    let w : stands h command_tag ≡ true = subst (λ (u : ℕ). stands h u ≡ true) i f.stood in
    let q = kept (object_at command_tag l p (length d)) r in
    let z = command_step h a l p r c d s w f.most f.deep f.few in
    let b = shorter k command_tag d s (subst (λ (y : List ℕ). length y ≤ suc k) j n) in
    let g =
    rec Begun refl s (λ t v u. in_begun t u) l (p + length (object command_tag d)) q f.rest_octets b.1 (kept_few _ r f.few) (kept_fault _ r ∙ c)
    (fault_of h l p (x ∷ xs) (object command_tag d ++ s) r _ e j z)
    in
    subst (λ (y : List ℕ). Commands (commands_in (suc k) y) l p y r) (sym j)
    (subst (λ (ds : List (List ℕ)). Commands ds l p (object command_tag d ++ s) r) (sym (commands_of h command_tag d s w f.most k))
    (command_turn h a l p r c d s w f.most f.deep f.few (commands_in k s) g))

commands_derived : (k : ℕ) → CommandsRec k
commands_derived zero = commands_last
commands_derived (suc k) = commands_next k (commands_derived k)

-- what a 71 or 72 holds
pub record Scripted (v : Script) (l p : ℕ) (xs : List ℕ) (r : Read) : Type 0 where
  pub whole : written_script v ≡ xs
  pub fit : script_fits v ≡ true
  pub fitting : Fitting (script_objects l p v) r

plain_script : (ds : List (List ℕ)) (l p : ℕ) (xs : List ℕ) (r : Read) → length xs ≤ largest → Commands ds l p xs r
    → Scripted (record { identifier = none; commands = ds }) l p xs r
unfolding written_script written_identifier script_fits identifier_fits script_objects identifier_objects
plain_script ds l p xs r m g =
    record {
      whole = g.whole;
      fit = joined (le-leb _ _ (subst (λ (y : List ℕ). length y ≤ largest) (sym g.whole) m), joined (refl, g.fit));
      fitting = subst (λ (q : ℕ). Fitting (command_objects l q ds) r) (omega arith) g.fitting;
    }

identified_script : (d : List ℕ) (ds : List (List ℕ)) (l p : ℕ) (s : List ℕ) (r : Read) → length (object identifier_tag d ++ s) ≤ largest → length d ≡ 4 → l ≤ 4 → r.fault ≡ None
    → Commands ds l (p + length (object identifier_tag d)) s (kept (object_at identifier_tag l p (length d)) r)
    → Scripted (record { identifier = some d; commands = ds }) l p (object identifier_tag d ++ s) r
unfolding written_script written_identifier script_fits identifier_fits script_objects identifier_objects object_at
identified_script d ds l p s r m four deep c g =
    let w = ap (λ (y : List ℕ). object identifier_tag d ++ y) g.whole in
    record {
      whole = w;
      fit = joined (le-leb _ _ (subst (λ (y : List ℕ). length y ≤ largest) (sym w) m), joined (eq-eqb _ _ four, g.fit));
      fitting = fitting-cons (object_at identifier_tag l p (length d)) (command_objects l (p + length (object identifier_tag d)) ds) r deep c g.fitting;
    }

script_derived : (k : ℕ) (xs : List ℕ) (l p : ℕ) (r : Read) → length xs ≤ largest → Octets xs → length xs ≤ k → r.count ≤ 32 → r.fault ≡ None
    → (read_all Fresh l p xs r).fault ≡ None → Scripted (script_in k xs) l p xs r
unfolding after stands is_template length_fits
script_derived k xs l p r b o n m c e = go (eqb (tag_in xs) identifier_tag) refl
  where
    go : (v : Bool) → eqb (tag_in xs) identifier_tag ≡ v → Scripted (script_in k xs) l p xs r
    go false w =
        subst (λ (v : Script). Scripted v l p xs r) (sym (script_plain k xs w))
        (plain_script (commands_in k xs) l p xs r b
        (commands_derived k Fresh refl xs (λ t i u. fresh_command t u (λ j. eqb-false _ _ w (i ∙ j))) l p r o n m c e))
    go true w =
        let f = accepted_front Fresh l p xs r o (identifier_some xs w) e in
        let d = f.held in
        let s = f.rest in
        let i : f.tag ≡ identifier_tag = sym (front_tag Fresh l r.count xs f) ∙ eqb-true _ _ w in
        let j : xs ≡ object identifier_tag d ++ s = f.is ∙ ap (λ (u : ℕ). object u d ++ s) i in
        let four : length d ≡ 4 = eqb-true _ _ (subst (λ (u : ℕ). length_fits u (length d) ≡ true) i f.long) in
        let z = read_data Fresh identifier_tag d s l p r refl f.most (eq-eqb _ _ four) f.deep f.few refl c in
        let q = kept (object_at identifier_tag l p (length d)) r in
        let y = length-append (object identifier_tag d) s in
        let nn : length (object identifier_tag d ++ s) ≤ k = subst (λ (u : List ℕ). length u ≤ k) j n in
        let g =
        commands_derived k Begun refl s (λ t v u. in_begun t u) l (p + length (object identifier_tag d)) q f.rest_octets (omega arith) (kept_few _ r f.few) (kept_fault _ r ∙ c)
        (fault_of Fresh l p xs (object identifier_tag d ++ s) r _ e j z)
        in
        subst (λ (u : List ℕ). Scripted (script_in k u) l p u r) (sym j)
        (subst (λ (v : Script). Scripted v l p (object identifier_tag d ++ s) r) (sym (script_of k d s f.most))
        (identified_script d (commands_in k s) l p s r (subst (λ (u : List ℕ). length u ≤ largest) j b) four f.deep c g))

-- templates
pub record Derived (t : Templates) (l p : ℕ) (xs : List ℕ) (r : Read) : Type 0 where
  pub whole : written t ≡ xs
  pub fit : fits t ≡ true
  pub fitting : Fitting (objects_of l p t) r

outer_turn : (i t : Templates) (l p : ℕ) (d s : List ℕ) (r : Read) → length d ≤ largest → l ≤ 4 → r.fault ≡ None
    → Derived i (l + 1) (p + head_size outer_tag (length d)) d (kept (object_at outer_tag l p (length d)) r)
    → Derived t l (p + length (object outer_tag d)) s
    (filled (kept (object_at outer_tag l p (length d)) r) (objects_of (l + 1) (p + head_size outer_tag (length d)) i))
    → Derived (outer i t) l p (object outer_tag d ++ s) r
unfolding written fits objects_of object_at
outer_turn i t l p d s r m deep c f g =
    let w = f.whole in
    let o = object_at outer_tag l p (length d) in
    let j = objects_of (l + 1) (p + head_size outer_tag (length d)) i in
    let u = objects_of l (p + length (object outer_tag d)) t in
    record {
      whole = ap₂ (λ (x y : List ℕ). object outer_tag x ++ y) w g.whole;
      fit = joined (le-leb _ _ (subst (λ (y : List ℕ). length y ≤ largest) (sym w) m), joined (f.fit, g.fit));
      fitting =
          subst (λ (y : List ℕ). Fitting (object_at outer_tag l p (length y) ∷ (objects_of (l + 1) (p + head_size outer_tag (length y)) i ++ objects_of l (p + length (object outer_tag y)) t)) r)
          (sym w)
          (fitting-cons o (j ++ u) r deep c (fitting-append j u (kept o r) f.fitting g.fitting));
    }

kind_turn : (k : Kind) (v : Script) (t : Templates) (l p : ℕ) (d s : List ℕ) (r : Read) → length d ≤ largest → l ≤ 4 → r.fault ≡ None
    → Scripted v (l + 1) (p + head_size (kind_tag k) (length d)) d (kept (object_at (kind_tag k) l p (length d)) r)
    → Derived t l (p + length (object (kind_tag k) d)) s
    (filled (kept (object_at (kind_tag k) l p (length d)) r) (script_objects (l + 1) (p + head_size (kind_tag k) (length d)) v))
    → Derived (script k v t) l p (object (kind_tag k) d ++ s) r
unfolding written fits objects_of object_at
kind_turn k v t l p d s r m deep c f g =
    let w = f.whole in
    let o = object_at (kind_tag k) l p (length d) in
    let j = script_objects (l + 1) (p + head_size (kind_tag k) (length d)) v in
    let u = objects_of l (p + length (object (kind_tag k) d)) t in
    record {
      whole = ap₂ (λ (x y : List ℕ). object (kind_tag k) x ++ y) w g.whole;
      fit = joined (f.fit, g.fit);
      fitting =
          subst (λ (y : List ℕ). Fitting (object_at (kind_tag k) l p (length y) ∷ (script_objects (l + 1) (p + head_size (kind_tag k) (length y)) v ++ objects_of l (p + length (object (kind_tag k) y)) t)) r)
          (sym w)
          (fitting-cons o (j ++ u) r deep c (fitting-append j u (kept o r) f.fitting g.fitting));
    }

abbrev pub Rec : ℕ → Type 0
Rec k = (xs : List ℕ) (l p : ℕ) (r : Read) → Octets xs → length xs ≤ k → r.count ≤ 32 → r.fault ≡ None → (read_all Outer l p xs r).fault ≡ None
    → Derived (templates_in k xs) l p xs r

outer_derived : (k : ℕ) → Rec k → (d s : List ℕ) (l p : ℕ) (r : Read) → Octets d → Octets s → length (object outer_tag d ++ s) ≤ suc k → length d ≤ largest → l ≤ 4
    → r.count < 32 → r.fault ≡ None → (read_all Outer l p (object outer_tag d ++ s) r).fault ≡ None
    → Derived (templates_in (suc k) (object outer_tag d ++ s)) l p (object outer_tag d ++ s) r
unfolding stands after is_template within length_fits
outer_derived k rec d s l p r od os n m deep few c e =
    let o = object_at outer_tag l p (length d) in
    let x = object outer_tag d ++ s in
    let b = shorter k outer_tag d s n in
    let y = object_read_lem Outer outer_tag d s l p r refl m refl deep few refl in
    let v : (read_all Outer (l + 1) (p + head_size outer_tag (length d)) d (kept o r)).fault ≡ None
    = ap (λ (z : Read). z.fault) (sym y) ∙ object_fault Outer l p x r (some_is Outer outer_tag d s refl m) e in
    let f = rec d (l + 1) (p + head_size outer_tag (length d)) (kept o r) od b.0 (kept_few o r few) (kept_fault o r ∙ c) v in
    let i = templates_in k d in
    let j = objects_of (l + 1) (p + head_size outer_tag (length d)) i in
    let q : read_all Outer (l + 1) (p + head_size outer_tag (length d)) d (kept o r) ≡ filled (kept o r) j
    = subst (λ (u : List ℕ). read_all Outer (l + 1) (p + head_size outer_tag (length d)) u (kept o r) ≡ filled (kept o r) j) f.whole
    (templates_read i (l + 1) (p + head_size outer_tag (length d)) (kept o r) f.fit f.fitting) in
    let qc : (filled (kept o r) j).fault ≡ None = filled-fault (kept o r) j ∙ (kept_fault o r ∙ c) in
    let z = read_template_lem Outer outer_tag d s l p r refl m refl deep few refl (filled (kept o r) j) q qc in
    let g = rec s l (p + length (object outer_tag d)) (filled (kept o r) j) os b.1 (filled-few j (kept o r) f.fitting) qc (fault_of Outer l p x x r _ e refl z) in
    subst (λ (t : Templates). Derived t l p x r) (sym (templates_of Outer outer_tag d s refl m k))
    (outer_turn i (templates_in k s) l p d s r m deep c f g)

kind_derived : (kd : Kind) (k : ℕ) → Rec k → (d s : List ℕ) (l p : ℕ) (r : Read) → Octets d → Octets s → length (object (kind_tag kd) d ++ s) ≤ suc k → length d ≤ largest → l ≤ 4
    → r.count < 32 → r.fault ≡ None → (read_all Outer l p (object (kind_tag kd) d ++ s) r).fault ≡ None
    → Derived (templates_in (suc k) (object (kind_tag kd) d ++ s)) l p (object (kind_tag kd) d ++ s) r
kind_derived kd k rec d s l p r od os n m deep few c e =
    let t = kind_tag kd in
    let o = object_at t l p (length d) in
    let x = object t d ++ s in
    let b = shorter k t d s n in
    let y = kind_read kd d s l p r m deep few in
    let v : (read_all Fresh (l + 1) (p + head_size t (length d)) d (kept o r)).fault ≡ None
    = ap (λ (z : Read). z.fault) (sym y) ∙ object_fault Outer l p x r (some_is Outer t d s (kind_stands kd) m) e in
    let f = script_derived k d (l + 1) (p + head_size t (length d)) (kept o r) m od b.0 (kept_few o r few) (kept_fault o r ∙ c) v in
    let i = script_in k d in
    let j = script_objects (l + 1) (p + head_size t (length d)) i in
    let q : read_all Fresh (l + 1) (p + head_size t (length d)) d (kept o r) ≡ filled (kept o r) j
    = subst (λ (u : List ℕ). read_all Fresh (l + 1) (p + head_size t (length d)) u (kept o r) ≡ filled (kept o r) j) f.whole
    (script_read i (l + 1) (p + head_size t (length d)) (kept o r) f.fit f.fitting) in
    let qc : (filled (kept o r) j).fault ≡ None = filled-fault (kept o r) j ∙ (kept_fault o r ∙ c) in
    let z = script_turn kd d s l p r (filled (kept o r) j) m deep few q qc in
    let g = rec s l (p + length (object t d)) (filled (kept o r) j) os b.1 (filled-few j (kept o r) f.fitting) qc (fault_of Outer l p x x r _ e refl z) in
    subst (λ (u : Templates). Derived u l p x r) (sym (kind_parsed kd d s k m))
    (kind_turn kd i (templates_in k s) l p d s r m deep c f g)

templates_turn : (k : ℕ) → Rec k → (xs : List ℕ) (l p : ℕ) (r : Read) → Octets xs → length xs ≤ suc k → (length xs ≡ 0 → ⊥) → r.fault ≡ None → (read_all Outer l p xs r).fault ≡ None
    → Derived (templates_in (suc k) xs) l p xs r
templates_turn k rec xs l p r o n some_one c e = go (in_outer f.tag f.stood)
  where
    f : Front Outer l r.count xs
    f = accepted_front Outer l p xs r o some_one e

    at : (t : ℕ) → f.tag ≡ t → xs ≡ object t f.held ++ f.rest
    at t i = f.is ∙ ap (λ (u : ℕ). object u f.held ++ f.rest) i

    fault_at : (ys : List ℕ) → xs ≡ ys → (read_all Outer l p ys r).fault ≡ None
    fault_at ys i = subst (λ (u : List ℕ). (read_all Outer l p u r).fault ≡ None) i e

    go : InOuter f.tag → Derived (templates_in (suc k) xs) l p xs r
    go (an_outer i) =
        let j = at outer_tag i in
        subst (λ (u : List ℕ). Derived (templates_in (suc k) u) l p u r) (sym j)
        (outer_derived k rec f.held f.rest l p r f.held_octets f.rest_octets (subst (λ (u : List ℕ). length u ≤ suc k) j n) f.most f.deep f.few c (fault_at _ j))
    go (a_script kd i) =
        let j = at (kind_tag kd) i in
        subst (λ (u : List ℕ). Derived (templates_in (suc k) u) l p u r) (sym j)
        (kind_derived kd k rec f.held f.rest l p r f.held_octets f.rest_octets (subst (λ (u : List ℕ). length u ≤ suc k) j n) f.most f.deep f.few c (fault_at _ j))

no_templates : (k l p : ℕ) (r : Read) → r.count ≤ 32 → r.fault ≡ None → Derived (templates_in k []) l p [] r
unfolding written fits objects_of
no_templates k l p r m c =
    subst (λ (t : Templates). Derived t l p [] r) (sym (templates_none k)) (record { whole = refl; fit = refl; fitting = fitting-none r m c })

templates_last : Rec zero
templates_last [] l p r o n m c e = no_templates zero l p r m c
templates_last (x ∷ xs) l p r o n m c e = absurd (not-suc-le-zero n)

templates_next : (k : ℕ) → Rec k → Rec (suc k)
templates_next k rec [] l p r o n m c e = no_templates (suc k) l p r m c
templates_next k rec (x ∷ xs) l p r o n m c e = templates_turn k rec (x ∷ xs) l p r o n suc_not_zero c e

pub templates_derived : (k : ℕ) → Rec k
templates_derived zero = templates_last
templates_derived (suc k) = templates_next k (templates_derived k)
