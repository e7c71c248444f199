-- A message has good shape exactly when its bytes pass the tests of the code. Assumes nothing.
use mathlib.Core.Path.{◌≡◌, refl, sym, ap, ap₂, ◌∙◌}
use mathlib.Core.Bool.{true, and-eq-true_iff}
use mathlib.Core.List.{List, [], ◌∷◌, ◌++◌, append_assoc}
use Prim.Native.Nat.{ℕ, suc, ◌+◌, ◌≤◌}
use native.Mathlib.Nat.{min-le_left, add-zero}
use native.Mathlib.Omega.{arith}
use borrow.Author.Tests.{eq-eqb, le-leb, eqb-true, leb-true}
use lib.Dec.{leb}
use lib.ListN.{length, get_or, take, drop, length-append, length-take, length-drop, take-append-drop}
use lib.Seq.{length-take-le, take-add, take_at, drop_at}
use Rattle.octets.specs.Same.{same}
use Rattle.octets.proofs.SameLaws.{same_refl, same_true}
use Rattle.octets.proofs.Parts.{elements_part}
use Rattle.shapes.specs.Length.{largest, length_field}
use Rattle.shapes.specs.Shape.{length_of, place_of, tag_fits, code_head, body, body_under, body_size, body_size_under, tag_of, data_of, data_of_under, body_of, body_of_under, code_in, code_in_under, shape, shape_under}
use Rattle.shapes.proofs.LengthLaws.{place_is, length_head, field_read, read_field}

-- what the code tests
pub record Good (m : List ℕ) : Type 0 where
  pub most : length_of m ≤ largest
  pub long : length m ≡ place_of (length_of m) + length_of m + 6
  pub tagged : tag_fits (tag_of m) ≡ true
  pub headed : same (get_or m (place_of (length_of m) + length_of m) 0 ∷ get_or m (place_of (length_of m) + length_of m + 1) 0 ∷ []) code_head ≡ true

-- a body by its parts, and its length
pub length-body : (t : ℕ) (d : List ℕ) → length (body t d) ≡ body_size (length d)
unfolding body_under body_size_under code_head
length-body t d =
    let f = length_field (length d) in
    let p = place_is (length d) in
    ap suc (length-append (f ++ d) (0x8e ∷ 0x04 ∷ []) ∙ ap (λ (k : ℕ). k + 2) (length-append f d)) ∙ omega arith

pub length_data : (m : List ℕ) → place_of (length_of m) + length_of m ≤ length m → length (data_of m) ≡ length_of m
unfolding data_of_under
length_data m h = length-take-le (length_of m) (drop (place_of (length_of m)) m) (omega (arith, length-drop (place_of (length_of m)) m))

two_at : (m : List ℕ) (i : ℕ) → i + 2 ≤ length m → take 2 (drop i m) ≡ get_or m i 0 ∷ get_or m (i + 1) 0 ∷ []
two_at m i h = elements_part m i 2 h ∙ ap (λ (k : ℕ). get_or m k 0 ∷ get_or m (i + 1) 0 ∷ []) (add-zero i)

good_body : (m : List ℕ) → Good m → body_of m ≡ body (tag_of m) (data_of m)
unfolding body_of_under body_under body_size_under tag_of data_of_under
good_body m g =
    let n = length_of m in
    let p = place_of n in
    let f = length_field n in
    let l = g.long in
    let q : take p m ≡ get_or m 0 0 ∷ f =
    ap (λ (k : ℕ). take k m) (place_is n) ∙ take-add 1 (length f) m
    ∙ ap₂ (λ (x y : List ℕ). x ++ y) (elements_part m 0 1 (omega arith)) (field_read m g.most (omega arith))
    in
    take-add (p + n) 2 m
    ∙ ap₂ (λ (x y : List ℕ). x ++ y)
    (take-add p n m ∙ ap (λ (x : List ℕ). x ++ take n (drop p m)) q)
    (two_at m (p + n) (omega arith) ∙ same_true _ code_head g.headed)
    ∙ ap (λ (k : ℕ). (get_or m 0 0 ∷ length_field k) ++ take n (drop p m) ++ code_head) (sym (length_data m (omega arith)))

good_code : (m : List ℕ) → Good m → length (code_in m) ≡ 4
unfolding code_in_under body_size_under
good_code m g = let l = g.long in simp length-drop (omega arith)

pub good_shape : (m : List ℕ) → Good m → shape m ≡ true
unfolding shape_under
good_shape m g =
    let s : same (body_of m) (body (tag_of m) (data_of m)) ≡ true = rw (good_body m g) (same_refl (body (tag_of m) (data_of m))) in
    simp (g.tagged, le-leb _ _ g.most, s, eq-eqb _ _ (good_code m g))

-- a body, and four bytes after it, are a message of that tag and data
module _ (t : ℕ) (d c : List ℕ) (l : length d ≤ largest) where
  pub length-read : length_of (body t d ++ c) ≡ length d
  unfolding body_under
  length-read =
      ap (λ (x : List ℕ). length_of (t ∷ x)) (append_assoc (length_field (length d) ++ d) code_head c ∙ append_assoc (length_field (length d)) d (code_head ++ c))
      ∙ read_field t (length d) (d ++ (code_head ++ c)) l

  pub tag_read : tag_of (body t d ++ c) ≡ t
  unfolding body_under tag_of
  tag_read = refl

  pub data_read : data_of (body t d ++ c) ≡ d
  unfolding data_of_under body_under
  data_read =
      let f = length_field (length d) in
      let n = length-read in
      let w : t ∷ f ++ d ++ code_head ++ c ≡ (t ∷ f) ++ (d ++ (code_head ++ c)) = ap (λ (x : List ℕ). t ∷ x) (append_assoc (f ++ d) code_head c ∙ append_assoc f d (code_head ++ c)) in
      ap (λ (k : ℕ). take k (drop (place_of k) (t ∷ f ++ d ++ code_head ++ c))) n
      ∙ ap (λ (x : List ℕ). take (length d) (drop (place_of (length d)) x)) w
      ∙ ap (take (length d)) (drop_at (t ∷ f) (d ++ (code_head ++ c)) (place_of (length d)) (length_head t (length d)))
      ∙ take_at d (code_head ++ c) (length d) refl

  pub body_read : body_of (body t d ++ c) ≡ body t d
  unfolding body_of_under
  body_read = ap (λ (k : ℕ). take (body_size k) (body t d ++ c)) length-read ∙ take_at (body t d) c (body_size (length d)) (length-body t d)

  pub code_read : code_in (body t d ++ c) ≡ c
  unfolding code_in_under
  code_read = ap (λ (k : ℕ). drop (body_size k) (body t d ++ c)) length-read ∙ drop_at (body t d) c (body_size (length d)) (length-body t d)

-- a message of good shape is its body and its code
pub record Parts (m : List ℕ) : Type 0 where
  pub tagged : tag_fits (tag_of m) ≡ true
  pub most : length_of m ≤ largest
  pub whole : m ≡ body (tag_of m) (data_of m) ++ code_in m
  pub its_body : body_of m ≡ body (tag_of m) (data_of m)
  pub sized : length (data_of m) ≡ length_of m
  pub four : length (code_in m) ≡ 4

parts_of : (m : List ℕ) → shape m ≡ true → (tag_fits (tag_of m) ≡ true) × (length_of m ≤ largest) × (body_of m ≡ body (tag_of m) (data_of m)) × (length (code_in m) ≡ 4)
unfolding shape_under
parts_of m e =
    let a = (and-eq-true_iff (tag_fits (tag_of m)) _).0 e in
    let b = (and-eq-true_iff (leb (length_of m) largest) _).0 a.1 in
    let c = (and-eq-true_iff (same (body_of m) (body (tag_of m) (data_of m))) _).0 b.1 in
    (a.0, leb-true _ _ b.0, same_true _ _ c.0, eqb-true _ _ c.1)

data_most : (m : List ℕ) → length (data_of m) ≤ length_of m
unfolding data_of_under
data_most m = rw length-take (min-le_left _ _)

pub shape_parts : (m : List ℕ) → shape m ≡ true → Parts m
unfolding body_of_under code_in_under
shape_parts m e =
    let q = parts_of m e in
    let k = body_size (length_of m) in
    let w : m ≡ body (tag_of m) (data_of m) ++ drop k m = sym (take-append-drop k m) ∙ ap (λ (x : List ℕ). x ++ drop k m) q.2 in
    let o = data_most m in
    record {
      tagged = q.0;
      most = q.1;
      whole = w;
      its_body = q.2;
      sized = sym (ap length_of w ∙ length-read (tag_of m) (data_of m) (drop k m) (omega (arith, q.1)));
      four = q.3;
    }

head_first : (c : List ℕ) → take 2 (code_head ++ c) ≡ code_head
unfolding code_head
head_first c = refl

pub shape_good : (m : List ℕ) → shape m ≡ true → Good m
unfolding body_size_under body_under
shape_good m e =
    let q = shape_parts m e in
    let n = length_of m in
    let d = data_of m in
    let s = q.sized in
    let b = length-body (tag_of m) d in
    let l : length m ≡ place_of n + n + 6 =
    ap length q.whole ∙ length-append (body (tag_of m) d) (code_in m) ∙ ap₂ (λ (x y : ℕ). x + y) (b ∙ ap body_size s) q.four ∙ omega arith
    in
    let f = tag_of m ∷ length_field (length d) ++ d in
    let i : length f ≡ place_of n + n = length-append (tag_of m ∷ length_field (length d)) d ∙ ap (λ (k : ℕ). k + length d) (length_head (tag_of m) (length d)) ∙ ap (λ (k : ℕ). place_of k + k) s in
    let h : get_or m (place_of n + n) 0 ∷ get_or m (place_of n + n + 1) 0 ∷ [] ≡ code_head =
    sym (two_at m (place_of n + n) (omega arith))
    ∙ ap (λ (x : List ℕ). take 2 (drop (place_of n + n) x)) (q.whole ∙ append_assoc f code_head (code_in m))
    ∙ ap (take 2) (drop_at f (code_head ++ code_in m) (place_of n + n) i)
    ∙ head_first (code_in m)
    in
    record { most = q.most; long = l; tagged = q.tagged; headed = rw h (same_refl code_head) }
