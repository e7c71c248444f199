-- Objects as bytes that are lent. Assumes nothing.
use mathlib.Core.Path.{◌≡◌, refl, sym, ap, ap₂, ◌∙◌}
use mathlib.Core.List.{List, [], ◌∷◌, ◌++◌, append_assoc, append-nil}
use Prim.Native.Nat.{ℕ, ◌+◌, ◌*◌, ◌/◌, ◌%◌, ◌<◌}
use native.Mathlib.Omega.{arith}
use lib.ListN.{length, get_or, take, drop, length-append}
use lib.Seq.{take_all, take_at, drop_at, drop-drop, length-take-le}
use borrow.Rule.Slice.PartMut.{put_mid}
use Rattle.std.proofs.lemmas.List.{take_more, drop_all}
use Rattle.octets.specs.Numbers.{le_octets, be_octets}
use Rattle.templates.specs.declared.Object.{Object}
use Rattle.templates.specs.Lent.{object_bytes, laid_objects}

pub object_laid : (o : Object) (p : List ℕ) → p ≡ be_octets 4 o.place
    → o.tag / 256 % 256 ∷ o.tag % 256 ∷ o.level / 256 % 256 ∷ o.level % 256 ∷ o.length / 256 % 256 ∷ o.length % 256 ∷ get_or p 0 0 ∷ get_or p 1 0 ∷ get_or p 2 0 ∷ get_or p 3 0 ∷ []
    ≡ object_bytes o
unfolding object_bytes be_octets le_octets
object_laid o p e =
    ap (λ (q : List ℕ). o.tag / 256 % 256 ∷ o.tag % 256 ∷ o.level / 256 % 256 ∷ o.level % 256 ∷ o.length / 256 % 256 ∷ o.length % 256 ∷ get_or q 0 0 ∷ get_or q 1 0 ∷ get_or q 2 0 ∷ get_or q 3 0 ∷ []) e

pub length_object_bytes : (o : Object) → length (object_bytes o) ≡ 10
unfolding object_bytes be_octets le_octets
length_object_bytes o = refl

pub length_laid_objects : (os : List Object) → length (laid_objects os) ≡ 10 * length os
unfolding laid_objects
length_laid_objects [] = refl
length_laid_objects (o ∷ os) =
    let a = length-append (object_bytes o) (laid_objects os) in
    let b = length_object_bytes o in
    let c = length_laid_objects os in
    omega arith

laid_then : (xs ys : List Object) → laid_objects (xs ++ ys) ≡ laid_objects xs ++ laid_objects ys
unfolding laid_objects
laid_then [] ys = refl
laid_then (o ∷ xs) ys = ap (λ (x : List ℕ). object_bytes o ++ x) (laid_then xs ys) ∙ sym (append_assoc (object_bytes o) (laid_objects xs) (laid_objects ys))

laid_one : (o : Object) → laid_objects (o ∷ []) ≡ object_bytes o
unfolding laid_objects
laid_one o = append-nil (object_bytes o)

-- object by object
pub laid_none : (os : List Object) (d : List ℕ) → d ≡ laid_objects (take 0 os) ++ drop (0 * 10) d
unfolding laid_objects
laid_none os d = refl

pub laid_turn : (os : List Object) (d out : List ℕ) (i k : ℕ) (z : Object) (b : List ℕ) → i < length os → out ≡ laid_objects (take i os) ++ drop (i * 10) d
    → k ≡ 10 → b ≡ object_bytes (get_or os i z) → put_mid (i * 10) k out b ≡ laid_objects (take (i + 1) os) ++ drop ((i + 1) * 10) d
laid_turn os d out i k z b h e m f =
    let t = laid_objects (take i os) in
    let o = object_bytes (get_or os i z) in
    let n : length t ≡ i * 10 = let a = length_laid_objects (take i os) in let c = length-take-le i os (omega arith) in omega arith in
    let rest : drop k (drop (i * 10) out) ≡ drop ((i + 1) * 10) d =
    ap₂ (λ (x : ℕ) (y : List ℕ). drop x (drop (i * 10) y)) m e
    ∙ ap (drop 10) (drop_at t (drop (i * 10) d) (i * 10) n)
    ∙ drop-drop 10 (i * 10) d
    ∙ ap (λ (x : ℕ). drop x d) (omega arith)
    in
    let first : take (i * 10) out ≡ t = ap (take (i * 10)) e ∙ take_at t (drop (i * 10) d) (i * 10) n in
    let more : laid_objects (take (i + 1) os) ≡ t ++ o =
    ap laid_objects (take_more os i z h) ∙ laid_then (take i os) (get_or os i z ∷ []) ∙ ap (λ (x : List ℕ). t ++ x) (laid_one (get_or os i z))
    in
    ap₂ (λ (x y : List ℕ). x ++ (b ++ y)) first rest
    ∙ ap (λ (x : List ℕ). t ++ (x ++ drop ((i + 1) * 10) d)) f
    ∙ sym (append_assoc t o (drop ((i + 1) * 10) d))
    ∙ ap (λ (x : List ℕ). x ++ drop ((i + 1) * 10) d) (sym more)

pub laid_all : (os : List Object) (d out : List ℕ) (i : ℕ) → length os ≡ 32 → length d ≡ 320 → i ≡ 32 → out ≡ laid_objects (take i os) ++ drop (i * 10) d
    → out ≡ laid_objects os
laid_all os d out i n m f e =
    e
    ∙ ap₂ (λ (x y : List ℕ). x ++ y) (ap laid_objects (take_all i os (omega arith))) (drop_all (i * 10) d (omega arith))
    ∙ append-nil (laid_objects os)
