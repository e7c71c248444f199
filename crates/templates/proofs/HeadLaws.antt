-- Tag and length field of an object: what is written is read, and what is read is what is written. Assumes nothing.
use mathlib.Core.Path.{◌≡◌, refl, sym, ap, ap₂, ◌∙◌}
use mathlib.Core.Bool.{Bool, true, false, ◌&&◌, cond, true≢false, and-eq-true_iff}
use mathlib.Core.List.{List, [], ◌∷◌, ◌++◌, append_assoc}
use Prim.Native.Nat.{ℕ, ◌+◌, ◌-◌, ◌^◌, ◌≤◌, ◌<◌}
use native.Mathlib.Omega.{arith}
use borrow.Author.Tests.{eqb-true, eqb-false, ne_eqb}
use lib.Dec.{eqb}
use lib.ListN.{length, get_or, take, drop, length-append, length-drop}
use lib.Seq.{take_all, take_at, drop_at}
use Rattle.shapes.specs.Length.{largest, length_field}
use Rattle.shapes.specs.Shape.{length_of, place_of}
use Rattle.shapes.proofs.LengthLaws.{place_is, place_small, place_short, place_long, Form, short, long, form, read_field}
use Rattle.templates.specs.declared.Holder.{Holder}
use Rattle.templates.specs.declared.Holder.TheVariants.{Outer, Fresh, Begun}
use Rattle.templates.specs.Grammar.{identifier_tag, tag_bytes, head_size, object}
use Rattle.templates.specs.Reading.{stands, tag_in, ahead, head_for, head_of}

-- two tests at once
pub both : {a b : Bool} → (a && b) ≡ true → (a ≡ true) × (b ≡ true)
both {a} {b} e = (and-eq-true_iff a b).0 e

pub joined : {a b : Bool} → (a ≡ true) × (b ≡ true) → (a && b) ≡ true
joined {a} {b} e = (and-eq-true_iff a b).1 e

-- a tag is the identifier's, of two bytes, or another, of one
pub data Tagged (t : ℕ) : Type 0 where
  two : t ≡ identifier_tag → ahead t ≡ 1 → tag_bytes t ≡ 0x9f ∷ 0x18 ∷ [] → Tagged t
  one : (t ≡ identifier_tag → ⊥) → ahead t ≡ 0 → tag_bytes t ≡ t ∷ [] → Tagged t

pub tagged : (t : ℕ) → Tagged t
unfolding ahead tag_bytes
tagged t = go (eqb t identifier_tag) refl
  where
    go : (b : Bool) → eqb t identifier_tag ≡ b → Tagged t
    go true e = two (eqb-true _ _ e) (ap (λ (x : Bool). cond x 1 0) e) (ap (λ (x : Bool). cond x (0x9f ∷ 0x18 ∷ []) (t ∷ [])) e)
    go false e = one (eqb-false _ _ e) (ap (λ (x : Bool). cond x 1 0) e) (ap (λ (x : Bool). cond x (0x9f ∷ 0x18 ∷ []) (t ∷ [])) e)

pub length-tag : (t : ℕ) → length (tag_bytes t) ≡ ahead t + 1
length-tag t = go (tagged t)
  where
    go : Tagged t → length (tag_bytes t) ≡ ahead t + 1
    go (two i a b) = ap length b ∙ ap (λ (k : ℕ). k + 1) (sym a)
    go (one i a b) = ap length b ∙ ap (λ (k : ℕ). k + 1) (sym a)

-- the size of tag and field
pub head_size_lem : (t n : ℕ) → head_size t n ≡ ahead t + place_of n
unfolding head_size
head_size_lem t n = let a = length-tag t in let p = place_is n in omega arith

pub record Small (t n : ℕ) : Type 0 where
  pub least : 2 ≤ head_size t n
  pub most : head_size t n ≤ 4

pub head_small : (t n : ℕ) → Small t n
head_small t n = go (tagged t) (form n) (head_size_lem t n)
  where
    go : Tagged t → Form n → head_size t n ≡ ahead t + place_of n → Small t n
    go (two i a b) (short h) s = let p = place_short n h in record { least = omega arith; most = omega arith }
    go (two i a b) (long h) s = let p = place_long n h in record { least = omega arith; most = omega arith }
    go (one i a b) (short h) s = let p = place_short n h in record { least = omega arith; most = omega arith }
    go (one i a b) (long h) s = let p = place_long n h in record { least = omega arith; most = omega arith }

pub length-object : (t : ℕ) (d : List ℕ) → length (object t d) ≡ head_size t (length d) + length d
unfolding object head_size
length-object t d =
    let a = length-append (tag_bytes t) (length_field (length d) ++ d) in
    let b = length-append (length_field (length d)) d in
    omega arith

-- a tag that may stand somewhere is not 9f
pub not_9f : (h : Holder) (t : ℕ) → stands h t ≡ true → t ≡ 0x9f → ⊥
unfolding stands
not_9f Outer t e i = true≢false (sym e ∙ ap (stands Outer) i)
not_9f Fresh t e i = true≢false (sym e ∙ ap (stands Fresh) i)
not_9f Begun t e i = true≢false (sym e ∙ ap (stands Begun) i)

-- what is written is read
pub tag_read : (h : Holder) (t : ℕ) (s : List ℕ) → stands h t ≡ true → tag_in (tag_bytes t ++ s) ≡ t
unfolding tag_in
tag_read h t s e = go (tagged t)
  where
    go : Tagged t → tag_in (tag_bytes t ++ s) ≡ t
    go (two i a b) = ap (λ (x : List ℕ). tag_in (x ++ s)) b ∙ sym i
    go (one i a b) =
        ap (λ (x : List ℕ). tag_in (x ++ s)) b
        ∙ ap (λ (x : Bool). cond (x && eqb (get_or (t ∷ s) 1 0) 0x18) identifier_tag t) (ne_eqb t 0x9f (not_9f h t e))

field_after : (t n : ℕ) (s : List ℕ) → n ≤ largest → length_of (drop (ahead t) (tag_bytes t ++ (length_field n ++ s))) ≡ n
field_after t n s l = go (tagged t)
  where
    go : Tagged t → length_of (drop (ahead t) (tag_bytes t ++ (length_field n ++ s))) ≡ n
    go (two i a b) =
        ap₂ (λ (k : ℕ) (x : List ℕ). length_of (drop k (x ++ (length_field n ++ s)))) a b ∙ read_field 0x18 n s l
    go (one i a b) = ap₂ (λ (k : ℕ) (x : List ℕ). length_of (drop k (x ++ (length_field n ++ s)))) a b ∙ read_field t n s l

pub object_then : (t : ℕ) (d s : List ℕ) → object t d ++ s ≡ tag_bytes t ++ (length_field (length d) ++ (d ++ s))
unfolding object
object_then t d s =
    append_assoc (tag_bytes t) (length_field (length d) ++ d) s
    ∙ ap (λ (x : List ℕ). tag_bytes t ++ x) (append_assoc (length_field (length d)) d s)

pub head_read : (h : Holder) (t : ℕ) (d s : List ℕ) → stands h t ≡ true → length d ≤ largest → head_of (object t d ++ s) ≡ head_for t (length d)
unfolding head_of
head_read h t d s e l =
    let x = object t d ++ s in
    let y = tag_bytes t ++ (length_field (length d) ++ (d ++ s)) in
    let i : tag_in y ≡ t = tag_read h t (length_field (length d) ++ (d ++ s)) e in
    ap head_of (object_then t d s)
    ∙ ap (λ (u : ℕ). head_for u (length_of (drop (ahead u) y))) i
    ∙ ap (head_for t) (field_after t (length d) (d ++ s) l)

pub data_read : (t : ℕ) (d s : List ℕ) → take (length d) (drop (head_size t (length d)) (object t d ++ s)) ≡ d
unfolding head_size
data_read t d s =
    let f = length_field (length d) in
    ap (λ (x : List ℕ). take (length d) (drop (length (tag_bytes t) + length f) x)) (object_then t d s ∙ sym (append_assoc (tag_bytes t) f (d ++ s)))
    ∙ ap (take (length d)) (drop_at (tag_bytes t ++ f) (d ++ s) (length (tag_bytes t) + length f) (length-append (tag_bytes t) f))
    ∙ take_at d s (length d) refl

pub rest_read : (t : ℕ) (d s : List ℕ) → drop (head_size t (length d) + length d) (object t d ++ s) ≡ s
rest_read t d s = drop_at (object t d) s (head_size t (length d) + length d) (length-object t d)

-- the head, as the code makes it
pub ahead_room : (xs : List ℕ) (t a : ℕ) → t ≡ tag_in xs → a ≡ ahead t → a ≤ length xs
unfolding tag_in
ahead_room xs t a i j = go (tagged t) xs i
  where
    go : Tagged t → (ys : List ℕ) → t ≡ tag_in ys → a ≤ length ys
    go (one n e b) ys w = omega (arith, j, e)
    go (two n e b) (x ∷ ys) w = omega (arith, j, e)
    go (two n e b) [] w = absurd (omega (arith, n, w))

pub ahead_small : (t a : ℕ) → a ≡ ahead t → a ≤ 1
ahead_small t a j = go (tagged t)
  where
    go : Tagged t → a ≤ 1
    go (one n e b) = omega (arith, j, e)
    go (two n e b) = omega (arith, j, e)

pub size_fits : (t a n p : ℕ) → a ≡ ahead t → p ≡ place_of n → a + p < 2 ^ 64
size_fits t a n p i j = let u = ahead_small t a i in let v = place_small n in omega arith

pub head_made : (xs : List ℕ) (t a n p : ℕ) → t ≡ tag_in xs → a ≡ ahead t → n ≡ length_of (take (length xs - a) (drop a xs)) → p ≡ place_of n
    → record { tag = t; length = n; size = a + p } ≡ head_of xs
unfolding head_of head_for
head_made xs t a n p i j k m =
    let u : a ≡ ahead (tag_in xs) = j ∙ ap ahead i in
    let l : n ≡ length_of (drop (ahead (tag_in xs)) xs)
    = k ∙ ap length_of (take_all (length xs - a) (drop a xs) (let d = length-drop a xs in omega arith)) ∙ ap (λ (z : ℕ). length_of (drop z xs)) u in
    let s : a + p ≡ head_size (tag_in xs) (length_of (drop (ahead (tag_in xs)) xs))
    = ap₂ (λ (y z : ℕ). y + z) u (m ∙ ap place_of l) ∙ sym (head_size_lem (tag_in xs) (length_of (drop (ahead (tag_in xs)) xs))) in
    ap₂ (λ (y : ℕ) (z : ℕ). record { tag = y; length = z; size = a + p }) i l
    ∙ ap (λ (z : ℕ). record { tag = tag_in xs; length = length_of (drop (ahead (tag_in xs)) xs); size = z }) s
