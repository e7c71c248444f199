-- Objects are at fault by what they say alone, so that whatever says what a tree says is accepted. Assumes nothing.
use mathlib.Core.Path.{◌≡◌, refl, sym, ap, ap₂, ◌∙◌}
use mathlib.Core.Bool.{Bool, true, false, ◌&&◌, ◌||◌, not, cond}
use mathlib.Core.List.{List, [], ◌∷◌}
use Prim.Native.Nat.{ℕ, ◌+◌}
use borrow.Author.Tests.{eqb-true}
use lib.Dec.{eqb, leb}
use lib.ListN.{length}
use Rattle.shapes.specs.Length.{largest}
use Rattle.templates.specs.declared.Holder.{Holder}
use Rattle.templates.specs.declared.Holder.TheVariants.{Outer}
use Rattle.templates.specs.declared.Object.{Object}
use Rattle.templates.specs.Grammar.{identifier_tag, Templates, written, objects_of, Sound}
use Rattle.templates.specs.Reading.{stands, after, is_template, is_data, within, length_fits, judged}
use Rattle.templates.proofs.StatementLaws.{reads_the_grammar}
use Rattle.scripts.specs.Writing.{own_length, bytes_within, length_of_first, open_at, placed, level_after, holder_after, fault_from, objects_fault}
use Rattle.scripts.specs.Statement.{Shown, shown, given, read_back, Saying, WritesTheGrammar}
use Rattle.scripts.proofs.ShownLaws.{spelled, spelled-given, spelled-tree}
use Rattle.scripts.proofs.AgainLaws.{tree_back}
use Rattle.scripts.proofs.AcceptLaws.{tree_written}
use Rattle.scripts.proofs.StatementLaws.{length-given, of_tree}

-- where an object of tag t, level l and length n is at fault
abbrev good : ℕ → Holder → Shown → Bool
good d h x =
    leb 1 x.level
    && (leb x.level d && (stands (open_at d h x.level) x.tag && (length_fits x.tag x.length && leb x.length largest)))

abbrev fault_shown : ℕ → Holder → ℕ → List Shown → ℕ
fault_shown d h c [] = 0
fault_shown d h c (x ∷ xs) =
    cond (eqb (judged (good d h x) x.level c) 0)
    (fault_shown (cond (is_template x.tag) (x.level + 1) x.level) (cond (is_template x.tag) (within x.tag) (after (open_at d h x.level))) (c + 1) xs)
    (judged (good d h x) x.level c)

-- an identifier's length is its own
own_fits : (o : Object) (os : List Object) → length_fits o.tag o.length ≡ length_fits o.tag (length_of_first o os)
unfolding length_fits length_of_first own_length is_data stands
own_fits o os = go (eqb o.tag identifier_tag) refl
  where
    go : (b : Bool) → eqb o.tag identifier_tag ≡ b
        → (not (eqb o.tag identifier_tag) || eqb o.length 4)
        ≡ (not (eqb o.tag identifier_tag) || eqb (cond (is_data o.tag) o.length (bytes_within o.level os)) 4)
    go true e = ap (λ (b : Bool). not (eqb o.tag identifier_tag) || eqb (cond b o.length (bytes_within o.level os)) 4) (sym (ap is_data (eqb-true o.tag identifier_tag e)))
    go false e = simp e

fault_shown_lem : (s : List ℕ) (os : List Object) (d : ℕ) (h : Holder) (c : ℕ) → fault_from d h c os ≡ fault_shown d h c (given s os)
unfolding fault_from placed level_after holder_after given shown
fault_shown_lem s [] d h c = refl
fault_shown_lem s (o ∷ os) d h c =
    let n = length_of_first o os in
    let f : Bool → ℕ =
    λ b. judged (leb 1 o.level && (leb o.level d && (stands (open_at d h o.level) o.tag && (b && leb n largest)))) o.level c
    in
    ap₂ (λ (b : Bool) (y : ℕ). cond (eqb (f b) 0) y (f b)) (own_fits o os) (fault_shown_lem s os (level_after o) (holder_after d h o) (c + 1))

fault_by : (s : List ℕ) (os : List Object) → objects_fault os ≡ cond (eqb (length (given s os)) 0) 16 (fault_shown 1 Outer 0 (given s os))
unfolding objects_fault
fault_by s os = ap₂ (λ (k j : ℕ). cond (eqb k 0) 16 j) (sym (length-given s os)) (fault_shown_lem s os 1 Outer 0)

-- what says the same is at fault alike
pub alike : (s x : List ℕ) (os ps : List Object) → given s os ≡ given x ps → objects_fault os ≡ objects_fault ps
alike s x os ps e = fault_by s os ∙ ap (λ (y : List Shown). cond (eqb (length y) 0) 16 (fault_shown 1 Outer 0 y)) e ∙ sym (fault_by x ps)

-- objects that say what a tree says
pub saying : (s : List ℕ) (os : List Object) (t : Templates) → Sound t → given s os ≡ read_back (written t) (objects_of 1 0 t) → Saying s os t
saying s os t w e =
    let x = written t in
    let ps = objects_of 1 0 t in
    let a = tree_written t w in
    let g = of_tree x ps a.good a.lie in
    let u : g.tree ≡ t = reads_the_grammar.one_tree g.tree t x (record { sound = g.sound; so = sym g.so ∙ a.again }) (record { sound = w; so = refl }) in
    let i : given x ps ≡ read_back x ps = g.same ∙ ap (λ (y : Templates). read_back (written y) (objects_of 1 0 y)) u in
    record {
      good = alike s x os ps (e ∙ sym i) ∙ a.good;
      so = spelled-given s os ∙ ap spelled (e ∙ tree_back t w.lengths) ∙ spelled-tree 1 t;
    }

-- Wish 6: what is written is what the grammar derives
pub writes_the_grammar : WritesTheGrammar
writes_the_grammar = record { each_tree = tree_written; each_saying = saying; accepted = of_tree }
