-- The reader reads the grammar, and nothing else. Assumes nothing.
use Rattle.std.specs.Prelude.{Some, None}
use Rattle.answers.specs.declared.Refusal.TheVariants.{BadObject}
use mathlib.Core.Path.{◌≡◌, refl, sym, ap, ap₂, subst, ◌∙◌}
use mathlib.Core.Bool.{Bool, cond}
use mathlib.Core.List.{List, [], ◌∷◌, ◌++◌, append-nil, append_assoc}
use Prim.Native.Nat.{ℕ, zero, suc, ◌+◌, ◌-◌, ◌≤◌, ◌<◌}
use native.Mathlib.Nat.{le_refl}
use native.Mathlib.Omega.{arith}
use borrow.Author.Tests.{eq-eqb, leb-true, le-leb}
use lib.ListN.{length, set, replicate, length-append}
use lib.Seq.{set-append_seam}
use Rattle.octets.specs.Numbers.{Octets}
use Rattle.templates.specs.declared.Holder.TheVariants.{Outer}
use Rattle.templates.specs.declared.Object.{Object}
use Rattle.templates.specs.declared.Read.{Read}
use Rattle.templates.specs.Grammar.{Templates, nothing, script, outer, kind_tag, outer_tag, object, written_script, written, objects_of}
use Rattle.templates.specs.Reading.{no_object, begun, kept, stopped, read_all, reading}
use Rattle.templates.specs.Statement.{answered, WrittenAs, Derives, ReadsTheGrammar}
use Rattle.templates.proofs.HeadLaws.{head_small, length-object}
use Rattle.templates.proofs.ReadLaws.{reading_some}
use Rattle.templates.proofs.TreeLaws.{filled, Fitting, templates_read}
use Rattle.templates.proofs.ParseLaws.{templates_in, templates_parsed}
use Rattle.templates.proofs.DerivedLaws.{templates_derived}

-- objects kept are the answer's
room_for : (n : ℕ) (a : Object) → 1 ≤ n → replicate n a ≡ a ∷ replicate (n - 1) a
room_for zero a h = absurd (omega (arith, h))
room_for (suc n) a h = let e : n ≡ suc n - 1 = omega arith in ap (λ (k : ℕ). a ∷ replicate k a) e

kept_answered : (s : List Object) (o : Object) → length s < 32 → kept o (answered s) ≡ answered (s ++ (o ∷ []))
unfolding kept answered
kept_answered s o h =
    let k = 32 - length s in
    let a : length (s ++ (o ∷ [])) ≡ length s + 1 = length-append s (o ∷ []) in
    let v : k - 1 ≡ 32 - length (s ++ (o ∷ [])) = omega arith in
    let q : set (s ++ replicate k no_object) (length s) o ≡ s ++ (o ∷ []) ++ replicate (32 - length (s ++ (o ∷ []))) no_object =
    ap (λ (z : List Object). set (s ++ z) (length s) o) (room_for k no_object (omega arith))
    ∙ set-append_seam s no_object (replicate (k - 1) no_object) o
    ∙ ap (λ (j : ℕ). s ++ (o ∷ replicate j no_object)) v
    ∙ sym (append_assoc s (o ∷ []) (replicate (32 - length (s ++ (o ∷ []))) no_object))
    in
    ap₂ (λ (z : List Object) (c : ℕ). record { objects = z; count = c; fault = None }) q (sym a)

filled-answered : (s t : List Object) → length s + length t ≤ 32 → filled (answered s) t ≡ answered (s ++ t)
filled-answered s [] h = ap answered (sym (append-nil s))
filled-answered s (o ∷ t) h =
    let a = length-append s (o ∷ []) in
    ap (λ (r : Read). filled r t) (kept_answered s o (omega arith))
    ∙ filled-answered (s ++ (o ∷ [])) t (omega arith)
    ∙ ap answered (append_assoc s (o ∷ []) t)

begun_answered : begun ≡ answered []
unfolding begun answered
begun_answered = refl

-- a tree with an object has a byte, and one without has none
written_some : (t : Templates) → 1 ≤ length (objects_of 1 0 t) → length (written t) ≡ 0 → ⊥
unfolding objects_of written
written_some nothing h e = omega (arith, h)
written_some (script k s t) h e =
    let a = length-append (object (kind_tag k) (written_script s)) (written t) in
    let b = length-object (kind_tag k) (written_script s) in
    let c = (head_small (kind_tag k) (length (written_script s))).least in
    omega arith
written_some (outer i t) h e =
    let a = length-append (object outer_tag (written i)) (written t) in
    let b = length-object outer_tag (written i) in
    let c = (head_small outer_tag (length (written i))).least in
    omega arith

some_object : (t : Templates) → (length (written t) ≡ 0 → ⊥) → 1 ≤ length (objects_of 1 0 t)
unfolding objects_of written
some_object nothing h = absurd (h refl)
some_object (script k s t) h = omega arith
some_object (outer i t) h = omega arith

each_tree : (t : Templates) (x : List ℕ) → WrittenAs t x → reading x ≡ answered (objects_of 1 0 t)
unfolding begun
each_tree t x w =
    let s = w.sound in
    let n : length (objects_of 1 0 t) ≤ 32 = leb-true _ _ s.many in
    let f : Fitting (objects_of 1 0 t) begun = record { deep = s.levels; few = omega arith; sane = refl } in
    ap reading (sym w.so)
    ∙ sym (reading_some (written t) begun _ refl (written_some t (leb-true _ _ s.some_one)) refl)
    ∙ templates_read t 1 0 begun s.lengths f
    ∙ ap (λ (r : Read). filled r (objects_of 1 0 t)) begun_answered
    ∙ filled-answered [] (objects_of 1 0 t) (omega arith)

-- an empty input is refused
accepted_some : (x : List ℕ) → (reading x).fault ≡ None → length x ≡ 0 → ⊥
unfolding reading stopped
accepted_some x e n =
    let v : (reading x).fault ≡ Some (record { at = 0; why = BadObject })
    = ap (λ (b : Bool). (cond b (stopped BadObject 0 begun) (read_all Outer 1 0 x begun)).fault) (eq-eqb (length x) 0 n) in
    let z : ◌≡◌ {A = ℕ} 0 1 = cc in
    absurd (omega arith)

accepted : (x : List ℕ) → Octets x → (reading x).fault ≡ None → Derives x
unfolding begun
accepted x o e =
    let n = accepted_some x e in
    let d = templates_derived (length x) x 1 0 begun o (le_refl (length x)) (omega arith) refl (ap (λ (r : Read). r.fault) (reading_some x begun _ refl n refl) ∙ e) in
    let t = templates_in (length x) x in
    let f = d.fitting in
    let m : length (objects_of 1 0 t) ≤ 32 = let z = f.few in omega arith in
    record {
      tree = t;
      written_as = record {
        sound = record {
          lengths = d.fit;
          levels = f.deep;
          many = le-leb _ _ m;
          some_one = le-leb _ _ (some_object t (λ z. n (ap length (sym d.whole) ∙ z)));
        };
        so = d.whole;
      };
    }

one_tree : (t u : Templates) (x : List ℕ) → WrittenAs t x → WrittenAs u x → t ≡ u
one_tree t u x v w =
    sym (templates_parsed t (length x) v.sound.lengths (subst (λ (y : List ℕ). length (written t) ≤ length y) v.so (le_refl (length (written t)))))
    ∙ ap (templates_in (length x)) (v.so ∙ sym w.so)
    ∙ templates_parsed u (length x) w.sound.lengths (subst (λ (y : List ℕ). length (written u) ≤ length y) w.so (le_refl (length (written u))))

-- Wish 6: what is read is what the grammar derives and nothing else
pub reads_the_grammar : ReadsTheGrammar reading
reads_the_grammar = record { each_tree = each_tree; accepted = accepted; one_tree = one_tree }
