-- Objects as bytes that are lent, octet by octet. Assumes nothing.
use mathlib.Core.Path.{◌≡◌, refl, sym, ap, ap₂, ◌∙◌}
use mathlib.Core.Bool.{Bool, true, false}
use mathlib.Core.List.{List, [], ◌∷◌, ◌++◌}
use Prim.Native.Nat.{ℕ, suc, ◌+◌, ◌-◌, ◌*◌, ◌/◌, ◌%◌, ◌≤◌, ◌<◌}
use native.Mathlib.Omega.{arith}
use borrow.Author.Tests.{leb-true, leb-false}
use lib.Dec.{leb}
use lib.ListN.{length, get_or, get_or-append}
use lib.Seq.{get_or-append-add}
use Rattle.templates.specs.declared.Object.{Object}
use Rattle.templates.specs.Lent.{object_bytes, laid_objects}
use Rattle.templates.proofs.LentLaws.{length_object_bytes}

turn : (o : Object) (os : List Object) (z : Object) (i : ℕ) (b : Bool) → leb 10 i ≡ b
    → ((j : ℕ) → j < 10 * length os → get_or (object_bytes (get_or os (j / 10) z)) (j % 10) 0 ≡ get_or (laid_objects os) j 0)
    → i < 10 * suc (length os) → get_or (object_bytes (get_or (o ∷ os) (i / 10) z)) (i % 10) 0 ≡ get_or (object_bytes o ++ laid_objects os) i 0
turn o os z i false e f h =
    let l : i < 10 = leb-false _ _ e in
    let q : i / 10 ≡ 0 = omega arith in
    let m : i % 10 ≡ i = omega arith in
    ap₂ (λ (x y : ℕ). get_or (object_bytes (get_or (o ∷ os) x z)) y 0) q m
    ∙ sym (get_or-append (object_bytes o) (laid_objects os) 0 i (let b = length_object_bytes o in omega arith))
turn o os z i true e f h =
    let g : 10 ≤ i = leb-true _ _ e in
    let q : i / 10 ≡ suc ((i - 10) / 10) = omega arith in
    let m : i % 10 ≡ (i - 10) % 10 = omega arith in
    let n : length (object_bytes o) + (i - 10) ≡ i = let b = length_object_bytes o in omega arith in
    ap₂ (λ (x y : ℕ). get_or (object_bytes (get_or (o ∷ os) x z)) y 0) q m
    ∙ f (i - 10) (omega arith)
    ∙ sym (get_or-append-add (object_bytes o) (laid_objects os) (i - 10) 0)
    ∙ ap (λ (x : ℕ). get_or (object_bytes o ++ laid_objects os) x 0) n

-- octet i is one of object i / 10
pub laid_at : (os : List Object) (z : Object) (i : ℕ) → i < 10 * length os
    → get_or (object_bytes (get_or os (i / 10) z)) (i % 10) 0 ≡ get_or (laid_objects os) i 0
unfolding laid_objects
laid_at [] z i h = absurd (omega (arith, h))
laid_at (o ∷ os) z i h = turn o os z i (leb 10 i) refl (λ j k. laid_at os z j k) h
