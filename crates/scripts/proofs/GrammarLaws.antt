-- Objects that are accepted are those of a tree of the grammar. Assumes nothing.
use mathlib.Core.Path.{◌≡◌, refl, sym, ap, ap₂, subst, ◌∙◌}
use mathlib.Core.Bool.{Bool, true, false, cond}
use mathlib.Core.List.{List, [], ◌∷◌, ◌++◌}
use Prim.Native.Nat.{ℕ, zero, suc, ◌+◌, ◌≤◌, ◌<◌}
use native.Mathlib.Nat.{not-suc-le-zero}
use native.Mathlib.Omega.{arith}
use borrow.Author.Tests.{le-leb}
use lib.ListN.{length}
use Rattle.shapes.specs.Length.{largest}
use Rattle.templates.specs.declared.Holder.{Holder}
use Rattle.templates.specs.declared.Holder.TheVariants.{Outer, Fresh}
use Rattle.templates.specs.declared.Object.{Object}
use Rattle.templates.specs.Grammar.{Kind, template1, template2, Templates, nothing, script, outer, kind_tag, outer_tag, object, written_script, written, script_fits, fits, head_size}
use Rattle.templates.specs.Reading.{stands, after, within, is_template, is_data}
use Rattle.templates.proofs.HeadLaws.{joined, length-object}
use Rattle.templates.proofs.ParseLaws.{InOuter, a_script, an_outer, in_outer}
use Rattle.scripts.specs.Writing.{all_lie, bytes_within, length_of_first, data_in, open_at, level_after, holder_after, fault_from}
use Rattle.scripts.specs.Statement.{Shown, shown, given}
use Rattle.scripts.proofs.LeafLaws.{open_outside}
use Rattle.scripts.proofs.FaultLaws.{first, place}
use Rattle.scripts.proofs.WriteLaws.{data_none, lie_parts}
use Rattle.scripts.proofs.ShownLaws.{one, script_shown, tree_shown, outer_no_data, kind_no_data, first_template, within_template, first_level, shut}
use Rattle.scripts.proofs.AcceptLaws.{open_outer}
use Rattle.scripts.proofs.LeftLaws.{Left, all_left, left_more, first_low, At, here, outside, where_at, script_of}

-- a template at level l, what it holds, and what follows it
module _ (s : List ℕ) (t l d : ℕ) (h : Holder) (c : ℕ) (o : Object) (os : List Object) (e : is_data t ≡ false) (f : fault_from d h c (o ∷ os) ≡ 0)
    (i : o.tag ≡ t) (j : o.level ≡ l) (xs : List Shown) (w : List ℕ) (v : Left s (l + 1) os xs w) where
  no_data : is_data o.tag ≡ false
  no_data = ap is_data i ∙ e

  length-held : bytes_within o.level os ≡ length w
  length-held =
      let k : bytes_within o.level os ≡ bytes_within l os = ap (λ (z : ℕ). bytes_within z os) j in
      let a = v.is_within l (omega arith) in
      let u = v.under in
      let z = shut l v.rest (omega arith) in
      omega arith

  length-first : length_of_first o os ≡ length w
  length-first = first_template o os no_data ∙ length-held

  held_given : given s (o ∷ os) ≡ one t l (length w) [] ∷ (xs ++ given s v.rest)
  unfolding given shown
  held_given =
      ap₂ (λ (a k : ℕ). one a k (length_of_first o os) (data_in s o) ∷ given s os) i j
      ∙ ap₂ (λ (a : ℕ) (k : List ℕ). one t l a k ∷ given s os) length-first (data_none s o no_data)
      ∙ ap (λ (z : List Shown). one t l (length w) [] ∷ z) v.is_given

  held_within : (m : ℕ) → m < l → bytes_within m (o ∷ os) ≡ length (object t w) + bytes_within m v.rest
  held_within m z =
      let a = within_template o os m (subst (λ (k : ℕ). m < k) (sym j) z) no_data in
      let n = length-object t w in
      let q : head_size o.tag (bytes_within o.level os) ≡ head_size t (length w) = ap₂ head_size i length-held in
      let b = v.is_within m (omega arith) in
      omega arith

  held_most : length w ≤ largest
  held_most = subst (λ (k : ℕ). k ≤ largest) length-first (place d h o (length_of_first o os) (first d h c o os f).fits).most

  held_left : (ys : List Shown) (z : List ℕ) → Left s l v.rest ys z → Left s l (o ∷ os) (one t l (length w) [] ∷ (xs ++ ys)) (object t w ++ z)
  held_left ys z g =
      let n = v.fewer in
      left_more s l (o ∷ os) (one t l (length w) [] ∷ xs) (object t w) v.rest held_given held_within (omega arith) ys z g

template_fault : (t l d : ℕ) (h : Holder) (c : ℕ) (o : Object) (os : List Object) → is_template t ≡ true → fault_from d h c (o ∷ os) ≡ 0 → o.tag ≡ t
    → o.level ≡ l
    → fault_from (l + 1) (within t) (c + 1) os ≡ 0
unfolding level_after holder_after
template_fault t l d h c o os e f i j =
    ap₂ (λ (a k : ℕ). fault_from (k + 1) (within a) (c + 1) os) (sym i) (sym j)
    ∙ ap (λ (b : Bool). fault_from (cond b (o.level + 1) o.level) (cond b (within o.tag) (after (open_at d h o.level))) (c + 1) os)
    (sym (ap is_template i ∙ e))
    ∙ (first d h c o os f).rest

kind_fault : (k : Kind) (l d : ℕ) (h : Holder) (c : ℕ) (o : Object) (os : List Object) → fault_from d h c (o ∷ os) ≡ 0 → o.tag ≡ kind_tag k → o.level ≡ l
    → fault_from (l + 1) Fresh (c + 1) os ≡ 0
unfolding is_template stands within
kind_fault template1 l d h c o os f i j = template_fault (kind_tag template1) l d h c o os refl f i j
kind_fault template2 l d h c o os f i j = template_fault (kind_tag template2) l d h c o os refl f i j

-- templates at level l
pub record Tree (s : List ℕ) (l : ℕ) (os : List Object) : Type 0 where
  pub tree : Templates
  pub fit : fits tree ≡ true
  pub left : Left s l os (tree_shown l tree) (written tree)

no_tree : (s : List ℕ) (l d : ℕ) (h : Holder) (c : ℕ) (os : List Object) → l ≤ d → first_level os < l → fault_from d h c os ≡ 0 → all_lie s os ≡ true → Tree s l os
unfolding written fits
no_tree s l d h c os p u f y = record { tree = nothing; fit = refl; left = all_left s l d h c os p u f y }

-- at every level that is open, and the top's or an e1's
abbrev pub Trees : ℕ → Type 0
Trees k = (s : List ℕ) (l d : ℕ) (h : Holder) (c : ℕ) (os : List Object) → length os ≤ k → 1 ≤ l → l ≤ d → open_at d h l ≡ Outer → first_level os ≤ l
    → fault_from d h c os ≡ 0 → all_lie s os ≡ true → Tree s l os

stood_outer : (l d : ℕ) (h : Holder) (c : ℕ) (o : Object) (os : List Object) → fault_from d h c (o ∷ os) ≡ 0 → o.level ≡ l → open_at d h l ≡ Outer
    → stands Outer o.tag ≡ true
stood_outer l d h c o os f j e =
    ap (λ (k : Holder). stands k o.tag) (sym (ap (open_at d h) j ∙ e)) ∙ (place d h o (length_of_first o os) (first d h c o os f).fits).stood

open_above : (l e : ℕ) (h : Holder) → l < e → open_at e h l ≡ Outer
open_above l e h z = sym (open_outside e h l (λ x. omega (arith, x)))

-- what follows a template
rest_of : (k : ℕ) → Trees k → (s : List ℕ) (l : ℕ) (os : List Object) (xs : List Shown) (w : List ℕ) → length os ≤ k → 1 ≤ l → (v : Left s (l + 1) os xs w)
    → Tree s l v.rest
rest_of k rec s l os xs w n one v =
    let a = v.fewer in
    let b = v.under in
    let e = v.deep in
    rec s l v.level v.holder v.count v.rest (omega arith) one (omega arith) (open_above l v.level v.holder (omega arith)) (omega arith)
    v.fault v.lie

tree_next : (k : ℕ) → Trees k → Trees (suc k)
unfolding is_template stands within written fits script_fits
tree_next k rec s l d h c [] n one p q r f y = no_tree s l d h c [] p one f y
tree_next k rec s l d h c (o ∷ os) n one p q r f y = go (where_at l o r)
  where
    held : (j : o.level ≡ l) → InOuter o.tag → Tree s l (o ∷ os)
    held j (a_script m i) =
        let v = script_of s (l + 1) (c + 1) os (omega arith) (kind_fault m l d h c o os f i j) (lie_parts s o os y).1 in
        let x = v.script_is in
        let g = rest_of k rec s l os (script_shown (l + 1) x) (written_script x) (omega arith) one v.left in
        record {
          tree = script m x g.tree;
          fit = joined (
            joined (
              le-leb _ _ (held_most s (kind_tag m) l d h c o os (kind_no_data m) f i j (script_shown (l + 1) x) (written_script x)
                  v.left),
              v.fit,
            ),
            g.fit,
          );
          left = held_left s (kind_tag m) l d h c o os (kind_no_data m) f i j (script_shown (l + 1) x) (written_script x) v.left (tree_shown l g.tree)
              (written g.tree) g.left;
        }
    held j (an_outer i) =
        let z : fault_from (l + 1) Outer (c + 1) os ≡ 0 = template_fault outer_tag l d h c o os refl f i j in
        let w = first_low (l + 1) Outer (c + 1) os z in
        let v = rec s (l + 1) (l + 1) Outer (c + 1) os (omega arith) (omega arith) (omega arith) (open_outer (l + 1) (l + 1)) w z (lie_parts s o os y).1 in
        let x = v.tree in
        let g = rest_of k rec s l os (tree_shown (l + 1) x) (written x) (omega arith) one v.left in
        record {
          tree = outer x g.tree;
          fit = joined (
            le-leb _ _ (held_most s outer_tag l d h c o os outer_no_data f i j (tree_shown (l + 1) x) (written x) v.left),
            joined
                (v.fit, g.fit),
          );
          left = held_left s outer_tag l d h c o os outer_no_data f i j (tree_shown (l + 1) x) (written x) v.left (tree_shown l g.tree)
              (written g.tree) g.left;
        }

    go : At l o → Tree s l (o ∷ os)
    go (outside u) = no_tree s l d h c (o ∷ os) p u f y
    go (here j) = held j (in_outer o.tag (stood_outer l d h c o os f j q))

tree_last : Trees zero
tree_last s l d h c [] n one p q r f y = no_tree s l d h c [] p one f y
tree_last s l d h c (o ∷ os) n one p q r f y = absurd (not-suc-le-zero n)

pub tree_of : (k : ℕ) → Trees k
tree_of zero = tree_last
tree_of (suc k) = tree_next k (tree_of k)
