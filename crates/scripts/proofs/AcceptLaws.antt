-- No object of a sound tree is at fault. Assumes nothing.
use mathlib.Core.Path.{◌≡◌, refl, sym, ap, subst, ◌∙◌}
use mathlib.Core.Bool.{Bool, true, false, cond}
use mathlib.Core.List.{List, [], ◌∷◌, ◌++◌, append_assoc, append-nil}
use mathlib.Core.Option.{Option, none, some}
use Prim.Native.Nat.{ℕ, suc, ◌+◌, ◌≤◌, ◌<◌}
use native.Mathlib.Omega.{arith}
use borrow.Author.Tests.{le-leb, leb-true, eqb-true, ne_eqb, lt-ltb}
use lib.Dec.{eqb, leb}
use lib.ListN.{length, length-append}
use Rattle.shapes.specs.Length.{largest}
use Rattle.templates.specs.declared.Holder.{Holder}
use Rattle.templates.specs.declared.Holder.TheVariants.{Outer, Fresh, Begun}
use Rattle.templates.specs.declared.Object.{Object}
use Rattle.templates.specs.Grammar.{Kind, template1, template2, Script, Templates, nothing, script, outer, kind_tag, outer_tag, command_tag, identifier_tag, object, written_identifier, written_script, written, identifier_fits, commands_fit, script_fits, fits, head_size, object_at, identifier_objects, command_objects, script_objects, objects_of, down_to, Sound}
use Rattle.templates.specs.Reading.{stands, after, within, is_template, is_data, length_fits, judged, verdict}
use Rattle.templates.proofs.HeadLaws.{both, joined}
use Rattle.scripts.specs.Writing.{bytes_within, length_of_first, open_at, placed, level_after, holder_after, fault_from, objects_fault}
use Rattle.scripts.specs.Statement.{WrittenAgain}
use Rattle.scripts.proofs.LeafLaws.{open_innermost, open_outside}
use Rattle.scripts.proofs.FaultLaws.{fault_good, fault_none, Place}
use Rattle.scripts.proofs.ShownLaws.{command_data, identifier_data, outer_no_data, kind_no_data, first_data, first_template, first_level, shut}
use Rattle.scripts.proofs.AgainLaws.{script_within, tree_within, first_level_lem, tree_lie, tree_again}

-- an object that may stand where it does
place_fits : (d : ℕ) (h : Holder) (o : Object) (n : ℕ) → Place d h o n → placed d h o n ≡ true
unfolding placed
place_fits d h o n p =
    joined (le-leb _ _ p.low, joined (le-leb _ _ p.open_there, joined (p.stood, joined (p.long, le-leb _ _ p.most))))

good_zero : (b : Bool) (l c : ℕ) → b ≡ true → l ≤ 4 → c < 32 → judged b l c ≡ 0
unfolding judged verdict
good_zero b l c e m n = simp (e, le-leb _ _ m, lt-ltb _ _ n)

passes : (d : ℕ) (h : Holder) (c : ℕ) (o : Object) (os : List Object) → Place d h o (length_of_first o os) → o.level ≤ 4 → c < 32
    → fault_from d h c (o ∷ os) ≡ fault_from (level_after o) (holder_after d h o) (c + 1) os
passes d h c o os p m n = fault_good d h c o os (good_zero _ o.level c (place_fits d h o (length_of_first o os) p) m n)

-- objects that are not too deep, and not too many
record Few (c : ℕ) (os : List Object) : Type 0 where
  pub deep : down_to 4 os ≡ true
  pub many : c + length os ≤ 32

record Next (c : ℕ) (o : Object) (os : List Object) : Type 0 where
  pub level : o.level ≤ 4
  pub one : c < 32
  pub rest : Few (c + 1) os

few_next : (c : ℕ) (o : Object) (os : List Object) → Few c (o ∷ os) → Next c o os
unfolding down_to
few_next c o os f =
    let a = both f.deep in
    let n = f.many in
    record { level = leb-true _ _ a.0; one = omega arith; rest = record { deep = a.1; many = omega arith } }

pub down_split : (n : ℕ) (s t : List Object) → down_to n (s ++ t) ≡ true → (down_to n s ≡ true) × (down_to n t ≡ true)
unfolding down_to
down_split n [] t e = (refl, e)
down_split n (o ∷ s) t e =
    let a = both {a = leb o.level n} e in
    let b = down_split n s t a.1 in
    (joined {a = leb o.level n} (a.0, b.0), b.1)

few_split : (c : ℕ) (s t : List Object) → Few c (s ++ t) → Few c s × Few (c + length s) t
few_split c s t f =
    let a = down_split 4 s t f.deep in
    let b = length-append s t in
    let n = f.many in
    (record { deep = a.0; many = omega arith }, record { deep = a.1; many = omega arith })

-- where the judging stands after objects: the innermost holder that is open, at level l or deeper, and level l is the top's or an e1's
record Reached (l d : ℕ) (h : Holder) (c : ℕ) (os r : List Object) : Type 0 where
  pub level : ℕ
  pub holder : Holder
  pub deep : l ≤ level
  pub free : open_at level holder l ≡ Outer
  pub same : fault_from d h c (os ++ r) ≡ fault_from level holder (c + length os) r

-- an object that has data of its own, in the innermost holder
data_passes : (t l : ℕ) (h : Holder) (c p n : ℕ) (os : List Object) → is_data t ≡ true → is_template t ≡ false → stands h t ≡ true → length_fits t n ≡ true
    → n ≤ largest
    → 1 ≤ l → l ≤ 4 → c < 32
    → fault_from l h c (object_at t l p n ∷ os) ≡ fault_from l (after h) (c + 1) os
unfolding object_at level_after holder_after
data_passes t l h c p n os e i s f m one four few =
    let o = object_at t l p n in
    let k : open_at l h l ≡ h = sym (open_innermost l h l refl) in
    let q : length_of_first o os ≡ n = first_data o os e in
    passes l h c o os
    (record {
      low = one;
      open_there = omega arith;
      stood = ap (λ (z : Holder). stands z t) k ∙ s;
      long = f;
      most = subst (λ (z : ℕ). z ≤ largest) (sym q) m;
    })
    four
    few
    ∙ ap (λ (b : Bool). fault_from (cond b (l + 1) l) (cond b (within t) (after (open_at l h l))) (c + 1) os) i
    ∙ ap (λ (z : Holder). fault_from l (after z) (c + 1) os) k

-- a template at a level that is open and the top's or an e1's
template_passes : (t l d : ℕ) (h : Holder) (c p n : ℕ) (os : List Object) → is_data t ≡ false → is_template t ≡ true → length_fits t n ≡ true → n ≤ largest
    → 1 ≤ l → l ≤ d → open_at d h l ≡ Outer → bytes_within l os ≡ n → l ≤ 4 → c < 32
    → fault_from d h c (object_at t l p n ∷ os) ≡ fault_from (l + 1) (within t) (c + 1) os
unfolding object_at level_after holder_after is_template
template_passes t l d h c p n os e i f m one deep k w four few =
    let o = object_at t l p n in
    let q : length_of_first o os ≡ n = first_template o os e ∙ w in
    passes d h c o os
    (record {
      low = one;
      open_there = deep;
      stood = ap (λ (z : Holder). stands z t) k ∙ i;
      long = f;
      most = subst (λ (z : ℕ). z ≤ largest) (sym q) m;
    })
    four
    few
    ∙ ap (λ (b : Bool). fault_from (cond b (l + 1) l) (cond b (within t) (after (open_at d h l))) (c + 1) os) i

-- what a 71 or 72 holds
abbrev commands_end : Holder → List (List ℕ) → Holder
commands_end h [] = h
commands_end h (d ∷ ds) = commands_end Begun ds

count_on : (l : ℕ) (h : Holder) (r : List Object) (a b : ℕ) → a ≡ b → fault_from l h a r ≡ fault_from l h b r
count_on l h r a b e = ap (λ (k : ℕ). fault_from l h k r) e

commands_pass : (l : ℕ) (h : Holder) (c p : ℕ) (ds : List (List ℕ)) (r : List Object) → 1 ≤ l → stands h command_tag ≡ true → after h ≡ Begun
    → commands_fit ds ≡ true
    → Few c (command_objects l p ds)
    → fault_from l h c (command_objects l p ds ++ r) ≡ fault_from l (commands_end h ds) (c + length (command_objects l p ds)) r
unfolding command_objects commands_fit is_template stands length_fits after object_at
commands_pass l h c p [] r one s a f w = count_on l h r c (c + 0) (omega arith)
commands_pass l h c p (d ∷ ds) r one s a f w =
    let b = both f in
    let q = p + length (object command_tag d) in
    let os = command_objects l q ds in
    let x = few_next c (object_at command_tag l p (length d)) os w in
    data_passes command_tag l h c p (length d) (os ++ r) command_data refl s refl (leb-true _ _ b.0) one x.level x.one
    ∙ ap (λ (z : Holder). fault_from l z (c + 1) (os ++ r)) a
    ∙ commands_pass l Begun (c + 1) q ds r one refl refl b.1 x.rest
    ∙ count_on l (commands_end Begun ds) r (c + 1 + length os) (c + suc (length os)) (omega arith)

record Passed (l : ℕ) (h : Holder) (c : ℕ) (os r : List Object) : Type 0 where
  pub holder : Holder
  pub same : fault_from l h c (os ++ r) ≡ fault_from l holder (c + length os) r

script_parts : (l c p : ℕ) (i : Option (List ℕ)) (ds : List (List ℕ)) (r : List Object) → 1 ≤ l → identifier_fits i ≡ true → commands_fit ds ≡ true
    → Few c (identifier_objects l p i ++ command_objects l (p + length (written_identifier i)) ds)
    → Passed l Fresh c (identifier_objects l p i ++ command_objects l (p + length (written_identifier i)) ds) r
unfolding identifier_objects identifier_fits written_identifier stands after is_template length_fits object_at largest
script_parts l c p none ds r one f g w =
    record { holder = commands_end Fresh ds; same = commands_pass l Fresh c (p + 0) ds r one refl refl g w }
script_parts l c p (some d) ds r one f g w =
    let q = p + length (object identifier_tag d) in
    let os = command_objects l q ds in
    let x = few_next c (object_at identifier_tag l p (length d)) os w in
    let n : length d ≡ 4 = eqb-true _ _ f in
    record {
      holder = commands_end Begun ds;
      same =
          data_passes identifier_tag l Fresh c p (length d) (os ++ r) identifier_data refl refl f (omega arith) one x.level x.one
          ∙ commands_pass l Begun (c + 1) q ds r one refl refl g x.rest
          ∙ count_on l (commands_end Begun ds) r (c + 1 + length os) (c + suc (length os)) (omega arith);
    }

script_pass : (l c p : ℕ) (v : Script) (r : List Object) → 1 ≤ l → script_fits v ≡ true → Few c (script_objects l p v) → Passed l Fresh c (script_objects l p v) r
unfolding script_objects script_fits
script_pass l c p v r one f w =
    let a = both {a = leb (length (written_script v)) largest} f in
    let b = both {a = identifier_fits v.identifier} a.1 in
    script_parts l c p v.identifier v.commands r one b.0 b.1 w

-- what a template holds is as long as it is written
script_most : (v : Script) → script_fits v ≡ true → length (written_script v) ≤ largest
unfolding script_fits
script_most v f = leb-true _ _ (both {a = leb (length (written_script v)) largest} f).0

shut_after : (l n : ℕ) (xs r : List Object) → first_level r ≤ l → bytes_within l (xs ++ r) ≡ n + bytes_within l r → bytes_within l (xs ++ r) ≡ n
shut_after l n xs r f e = let b = shut l r f in omega arith

script_held : (l j : ℕ) (v : Script) (ys r : List Object) → first_level (ys ++ r) ≤ l
    → bytes_within l (script_objects (l + 1) j v ++ (ys ++ r)) ≡ length (written_script v)
script_held l j v ys r f = shut_after l (length (written_script v)) (script_objects (l + 1) j v) (ys ++ r) f (script_within (l + 1) j v (ys ++ r) l (omega arith))

tree_held : (l j : ℕ) (i : Templates) (ys r : List Object) → first_level (ys ++ r) ≤ l → bytes_within l (objects_of (l + 1) j i ++ (ys ++ r)) ≡ length (written i)
tree_held l j i ys r f = shut_after l (length (written i)) (objects_of (l + 1) j i) (ys ++ r) f (tree_within i (l + 1) j (ys ++ r) l (omega arith) (omega arith))

-- templates, at level l
pub open_outer : (d l : ℕ) → open_at d Outer l ≡ Outer
unfolding open_at
open_outer d l = go (eqb l d)
  where
    go : (b : Bool) → cond b Outer Outer ≡ Outer
    go true = refl
    go false = refl

-- objects xs of a template, and then those ys after it
reached_both : (l d : ℕ) (h : Holder) (c : ℕ) (o : Object) (xs ys r : List Object) (k : Holder) (e : ℕ)
    → fault_from d h c (o ∷ (xs ++ (ys ++ r))) ≡ fault_from (l + 1) k (c + 1) (xs ++ (ys ++ r))
    → (m : Holder) → fault_from (l + 1) k (c + 1) (xs ++ (ys ++ r)) ≡ fault_from e m (c + 1 + length xs) (ys ++ r)
    → Reached l e m (c + 1 + length xs) ys r → Reached l d h c (o ∷ (xs ++ ys)) r
reached_both l d h c o xs ys r k e i m j f =
    let a = length-append xs ys in
    record {
      level = f.level;
      holder = f.holder;
      deep = f.deep;
      free = f.free;
      same =
          ap (λ (z : List Object). fault_from d h c (o ∷ z)) (append_assoc xs ys r)
          ∙ i
          ∙ j
          ∙ f.same
          ∙ count_on f.level f.holder r (c + 1 + length xs + length ys) (c + suc (length (xs ++ ys))) (omega arith);
    }

kind_passes : (k : Kind) (l d : ℕ) (h : Holder) (c p n : ℕ) (os : List Object) → n ≤ largest → 1 ≤ l → l ≤ d → open_at d h l ≡ Outer → bytes_within l os ≡ n
    → l ≤ 4 → c < 32
    → fault_from d h c (object_at (kind_tag k) l p n ∷ os) ≡ fault_from (l + 1) Fresh (c + 1) os
unfolding is_template stands within length_fits
kind_passes template1 l d h c p n os m one deep k w four few =
    template_passes (kind_tag template1) l d h c p n os (kind_no_data template1) refl refl m one deep k w four few
kind_passes template2 l d h c p n os m one deep k w four few =
    template_passes (kind_tag template2) l d h c p n os (kind_no_data template2) refl refl m one deep k w four few

tree_pass : (t : Templates) (l d : ℕ) (h : Holder) (c p : ℕ) (r : List Object) → 1 ≤ l → l ≤ d → open_at d h l ≡ Outer → first_level r ≤ l → fits t ≡ true
    → Few c (objects_of l p t) → Reached l d h c (objects_of l p t) r
unfolding objects_of fits is_template stands within length_fits object_at
tree_pass nothing l d h c p r one deep free g f w =
    record { level = d; holder = h; deep = deep; free = free; same = count_on d h r c (c + 0) (omega arith) }
tree_pass (script k v t) l d h c p r one deep free g f w =
    let b = both {a = script_fits v} f in
    let x = written_script v in
    let j = p + head_size (kind_tag k) (length x) in
    let q = p + length (object (kind_tag k) x) in
    let xs = script_objects (l + 1) j v in
    let ys = objects_of l q t in
    let o = object_at (kind_tag k) l p (length x) in
    let n = few_next c o (xs ++ ys) w in
    let u = few_split (c + 1) xs ys n.rest in
    let y = script_pass (l + 1) (c + 1) j v (ys ++ r) (omega arith) b.0 u.0 in
    reached_both l d h c o xs ys r Fresh (l + 1)
    (kind_passes k l d h c p (length x) (xs ++ (ys ++ r)) (script_most v b.0) one deep free
    (script_held l j v ys r (first_level_lem t l q r g))
    n.level
    n.one)
    y.holder
    y.same
    (tree_pass t l (l + 1) y.holder (c + 1 + length xs) q r one (omega arith) (sym (open_outside (l + 1) y.holder l (λ z. omega (arith, z)))) g b.1
    u.1)
tree_pass (outer i t) l d h c p r one deep free g f w =
    let a = both {a = leb (length (written i)) largest} f in
    let b = both {a = fits i} a.1 in
    let x = written i in
    let j = p + head_size outer_tag (length x) in
    let q = p + length (object outer_tag x) in
    let xs = objects_of (l + 1) j i in
    let ys = objects_of l q t in
    let o = object_at outer_tag l p (length x) in
    let n = few_next c o (xs ++ ys) w in
    let u = few_split (c + 1) xs ys n.rest in
    let fl = first_level_lem t l q r g in
    let y = tree_pass i (l + 1) (l + 1) Outer (c + 1) j (ys ++ r) (omega arith) (omega arith) (open_outer (l + 1) (l + 1)) (omega arith) b.0 u.0 in
    let dp = y.deep in
    reached_both l d h c o xs ys r Outer y.level
    (template_passes outer_tag l d h c p (length x) (xs ++ (ys ++ r)) outer_no_data refl refl (leb-true _ _ a.0) one deep free
    (tree_held l j i ys r fl)
    n.level
    n.one)
    y.holder
    y.same
    (tree_pass t l y.level y.holder (c + 1 + length xs) q r one (omega arith) (sym (open_outside y.level y.holder l (λ z. omega (arith, z)))) g
    b.1 u.1)

-- a whole tree
tree_good : (t : Templates) → Sound t → objects_fault (objects_of 1 0 t) ≡ 0
unfolding objects_fault
tree_good t s =
    let os = objects_of 1 0 t in
    let n : 1 ≤ length os = leb-true _ _ s.some_one in
    let m : length os ≤ 32 = leb-true _ _ s.many in
    let y = tree_pass t 1 1 Outer 0 0 [] (omega arith) (omega arith) (open_outer 1 1) (omega arith) s.lengths
    (record { deep = s.levels; many = omega arith }) in
    ap (λ (b : Bool). cond b 16 (fault_from 1 Outer 0 os)) (ne_eqb (length os) 0 (λ z. omega (arith, z)))
    ∙ ap (fault_from 1 Outer 0) (sym (append-nil os))
    ∙ y.same
    ∙ fault_none y.level y.holder (0 + length os)

pub tree_written : (t : Templates) → Sound t → WrittenAgain t
tree_written t s = record { good = tree_good t s; lie = tree_lie t s.lengths; again = tree_again t s.lengths }
