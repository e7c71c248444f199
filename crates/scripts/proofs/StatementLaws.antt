-- What is written is a tree of the grammar, and the objects of a tree are written as it. Assumes nothing.
use mathlib.Core.Path.{◌≡◌, refl, sym, ap, subst, ◌∙◌}
use mathlib.Core.Bool.{Bool, true, false, ◌&&◌, cond}
use mathlib.Core.List.{List, [], ◌∷◌, ◌++◌, append-nil}
use Prim.Native.Nat.{ℕ, suc, ◌+◌, ◌≤◌, ◌<◌}
use native.Mathlib.Omega.{arith}
use borrow.Author.Tests.{le-leb, eqb-false}
use lib.Dec.{eqb, leb}
use lib.ListN.{length}
use Rattle.templates.specs.declared.Holder.{Holder}
use Rattle.templates.specs.declared.Holder.TheVariants.{Outer}
use Rattle.templates.specs.declared.Object.{Object}
use Rattle.templates.specs.Grammar.{written, objects_of, down_to}
use Rattle.templates.proofs.HeadLaws.{joined}
use Rattle.scripts.specs.Writing.{all_lie, length_of_first, level_after, holder_after, fault_from, objects_fault}
use Rattle.scripts.specs.Statement.{Shown, shown, given, read_back, WrittenOf}
use Rattle.scripts.proofs.FaultLaws.{first, place, fault_count}
use Rattle.scripts.proofs.ShownLaws.{tree_shown, spelled, spelled-given, spelled-tree, first_level}
use Rattle.scripts.proofs.AgainLaws.{tree_back}
use Rattle.scripts.proofs.AcceptLaws.{open_outer}
use Rattle.scripts.proofs.LeftLaws.{first_low}
use Rattle.scripts.proofs.GrammarLaws.{tree_of}

-- nothing is left of objects at level 1
none_left : (d : ℕ) (h : Holder) (c : ℕ) (r : List Object) → first_level r < 1 → fault_from d h c r ≡ 0 → r ≡ []
none_left d h c [] u f = refl
none_left d h c (o ∷ r) u f = let a = (place d h o (length_of_first o r) (first d h c o r f).fits).low in absurd (omega arith)

-- levels and number are shown
abbrev shown_down : ℕ → List Shown → Bool
shown_down n [] = true
shown_down n (x ∷ xs) = leb x.level n && shown_down n xs

down_given : (n : ℕ) (s : List ℕ) (os : List Object) → down_to n os ≡ shown_down n (given s os)
unfolding down_to given shown
down_given n s [] = refl
down_given n s (o ∷ os) = ap (λ (b : Bool). leb o.level n && b) (down_given n s os)

down_back : (n : ℕ) (s : List ℕ) (os : List Object) → down_to n os ≡ shown_down n (read_back s os)
unfolding down_to read_back shown
down_back n s [] = refl
down_back n s (o ∷ os) = ap (λ (b : Bool). leb o.level n && b) (down_back n s os)

pub length-given : (s : List ℕ) (os : List Object) → length (given s os) ≡ length os
unfolding given
length-given s [] = refl
length-given s (o ∷ os) = ap suc (length-given s os)

length_back : (s : List ℕ) (os : List Object) → length (read_back s os) ≡ length os
unfolding read_back
length_back s [] = refl
length_back s (o ∷ os) = ap suc (length_back s os)

fault_deep : (d : ℕ) (h : Holder) (c : ℕ) (os : List Object) → fault_from d h c os ≡ 0 → down_to 4 os ≡ true
unfolding down_to
fault_deep d h c [] f = refl
fault_deep d h c (o ∷ os) f =
    let a = first d h c o os f in
    joined (le-leb _ _ a.deep, fault_deep (level_after o) (holder_after d h o) (c + 1) os a.rest)

-- what is accepted
record Some (os : List Object) : Type 0 where
  pub good : fault_from 1 Outer 0 os ≡ 0
  pub some_one : 1 ≤ length os

some_good : (os : List Object) → objects_fault os ≡ 0 → Some os
unfolding objects_fault
some_good os f = go (eqb (length os) 0) refl f
  where
    go : (b : Bool) → eqb (length os) 0 ≡ b → ◌≡◌ {A = ℕ} (cond b 16 (fault_from 1 Outer 0 os)) 0 → Some os
    go true e z = absurd (omega arith)
    go false e z = record { good = z; some_one = positive (length os) (eqb-false _ _ e) }
      where
        positive : (n : ℕ) → (n ≡ 0 → ⊥) → 1 ≤ n
        positive n w = omega arith

pub of_tree : (s : List ℕ) (os : List Object) → objects_fault os ≡ 0 → all_lie s os ≡ true → WrittenOf s os
unfolding given
of_tree s os f y =
    let a = some_good os f in
    let b = a.some_one in
    let g = tree_of (length os) s 1 1 Outer 0 os (omega arith) (omega arith) (omega arith) (open_outer 1 1) (first_low 1 Outer 0 os a.good) a.good y in
    let t = g.tree in
    let v = g.left in
    let x = written t in
    let ps = objects_of 1 0 t in
    let e : given s os ≡ tree_shown 1 t = v.is_given ∙ ap (λ (r : List Object). tree_shown 1 t ++ given s r)
    (none_left v.level v.holder v.count v.rest v.under v.fault) ∙ append-nil (tree_shown 1 t) in
    let i : given s os ≡ read_back x ps = e ∙ sym (tree_back t g.fit) in
    let n : length ps ≡ length os = sym (length_back x ps) ∙ ap length (sym i) ∙ length-given s os in
    let m = fault_count 1 Outer 0 os a.good (omega arith) in
    record {
      tree = t;
      sound =
          record {
            lengths = g.fit;
            levels = down_back 4 x ps ∙ ap (shown_down 4) (sym i) ∙ sym (down_given 4 s os) ∙ fault_deep 1 Outer 0 os a.good;
            many = le-leb _ _ (subst (λ (k : ℕ). k ≤ 32) (sym n) (omega arith));
            some_one = le-leb _ _ (subst (λ (k : ℕ). 1 ≤ k) (sym n) b);
          };
      so = spelled-given s os ∙ ap spelled e ∙ spelled-tree 1 t;
      same = i;
    }
