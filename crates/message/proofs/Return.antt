-- The two return laws (01, Script messages; demand 2): for one key, header and tag. Assumes nothing.
use mathlib.Core.Path.{◌≡◌, refl, sym, ap, ap₂, ◌∙◌}
use mathlib.Core.Bool.{Bool, true, false, cond, and-eq-true_iff}
use mathlib.Core.List.{List, ◌++◌}
use Prim.Native.Nat.{ℕ, ◌+◌, ◌≤◌}
use native.Mathlib.Omega.{arith}
use borrow.Author.Tests.{eq-eqb, le-leb, eqb-true}
use lib.Dec.{eqb}
use lib.ListN.{length, take, drop, length-append}
use Rattle.octets.specs.Same.{same}
use Rattle.octets.proofs.SameLaws.{same_refl, same_true}
use Rattle.std.specs.Prelude.{Result, Ok, Err}
use Rattle.answers.specs.declared.Refusal.{Refusal}
use Rattle.answers.specs.declared.Refusal.TheVariants.{Input, ShapeWrong, CodeDiffers}
use Rattle.shapes.specs.declared.Found.{Found}
use Rattle.shapes.specs.Length.{largest}
use Rattle.shapes.specs.Shape.{length_of, place_of, tag_fits, body, body_size_under, size_of, size_of_under, tag_of, data_of, data_of_under, body_of, code_in, shape, shape_under}
use Rattle.shapes.specs.Answers.{found, found_in}
use Rattle.shapes.proofs.ShapeLaws.{length-body, length-read, tag_read, data_read, body_read, code_read, shape_parts}
use Rattle.cipher.proofs.CodeLaws.{length_code_of}
use Rattle.message.specs.Code.{code_for, message, message_under, given, code_fits, code_fits_under}
use Rattle.octets.specs.Laid.{laid}
use Rattle.message.specs.Answers.{opened, opened_under, wrap_number, Written, wrapped, wrapped_under}
use Rattle.octets.proofs.LaidLaws.{laid_there}
use Rattle.message.proofs.WrapLaws.{accepted, wrap_fits, wrap_accepted}

length-code : (key header m : List ℕ) → length (code_for key header m) ≡ 4
unfolding code_for
length-code key header m = length_code_of _ _

length-message : (key header : List ℕ) (tag : ℕ) (d : List ℕ) → length (message key header tag d) ≡ size_of (length d)
unfolding message_under size_of_under
length-message key header tag d =
    length-append (body tag d) (code_for key header (body tag d)) ∙ ap₂ (λ (x y : ℕ). x + y) (length-body tag d) (length-code key header (body tag d))

pub message_size : (key header : List ℕ) (tag : ℕ) (d : List ℕ) → length (message key header tag d) ≡ place_of (length d) + length d + 6
unfolding size_of_under body_size_under
message_size key header tag d = let l = length-message key header tag d in omega arith

-- a message that is made has its shape and its code
module _ (key header : List ℕ) (tag : ℕ) (d : List ℕ) (g : given key header ≡ true) (t : tag_fits tag ≡ true) (l : length d ≤ largest) where
  m : List ℕ
  m = message key header tag d

  abbrev c : List ℕ
  c = code_for key header (body tag d)

  parts : (length_of m ≡ length d) × (tag_of m ≡ tag) × (data_of m ≡ d) × (body_of m ≡ body tag d) × (code_in m ≡ c)
  unfolding m message_under
  parts = (length-read tag d c l, tag_read tag d c l, data_read tag d c l, body_read tag d c l, code_read tag d c l)

  made_shape : shape m ≡ true
  unfolding shape_under
  made_shape =
      let p = parts in
      let s : same (body_of m) (body (tag_of m) (data_of m)) ≡ true = rw (p.1, p.2, p.3) (same_refl (body tag d)) in
      let n : length (code_in m) ≡ 4 = ap length p.4 ∙ length-code key header (body tag d) in
      simp (ap tag_fits p.1 ∙ t, le-leb (length_of m) largest (omega (arith, p.0)), s, eq-eqb _ _ n)

  made_code : code_fits key header m ≡ true
  unfolding code_fits_under
  made_code =
      let p = parts in
      let s : same (code_in m) (code_for key header (body_of m)) ≡ true = rw (p.3, p.4) (same_refl c) in
      simp (g, made_shape, s)

  pub data_made : data_of (message key header tag d) ≡ d
  unfolding m
  data_made = parts.2

  pub open_made : opened key header (message key header tag d) ≡ Ok (found tag (place_of (length d)) (length d))
  unfolding opened_under m
  open_made =
      let p = parts in
      simp (g, made_shape, made_code, p.0, p.1)

-- the bytes that wrapping writes
abbrev pub written : List ℕ → List ℕ → ℕ → List ℕ → List ℕ → ℕ → List ℕ
written key header tag d b place = take (size_of (length d)) (drop place (wrapped key header tag d b place).buffer)

-- data that wrapping takes
module _ (key header : List ℕ) (tag : ℕ) (d b : List ℕ) (place : ℕ) (e : (wrapped key header tag d b place).code ≡ 0) where
  number_zero : wrap_number key header tag (length d) (length b) place ≡ 0
  unfolding wrapped_under
  number_zero = go (eqb (wrap_number key header tag (length d) (length b) place) 0) refl e
    where
      go : (x : Bool) → eqb (wrap_number key header tag (length d) (length b) place) 0 ≡ x
          → (cond {A = Written} x (record { code = 0; buffer = laid b place (message key header tag d) }) (record { code = wrap_number key header tag (length d) (length b) place; buffer = b })).code ≡ 0
          → wrap_number key header tag (length d) (length b) place ≡ 0
      go true f h = eqb-true _ _ f
      go false f h = h

  written_message : written key header tag d b place ≡ message key header tag d
  unfolding size_of_under body_size_under
  written_message =
      let a = accepted key header tag (length d) (length b) place number_zero in
      let m = message key header tag d in
      let n : length m ≡ place_of (length d) + length d + 2 + 4 = length-message key header tag d in
      ap₂ (λ (k : ℕ) (w : Written). take k (drop place w.buffer)) (sym n) (wrap_accepted key header tag d b place number_zero)
      ∙ laid_there b place m (omega arith)

  data_wrapped : take (length d) (drop (place_of (length d)) (written key header tag d b place)) ≡ d
  unfolding data_of_under message_under
  data_wrapped =
      let a = accepted key header tag (length d) (length b) place number_zero in
      let c = code_for key header (body tag d) in
      let n = length-read tag d c a.most in
      ap (λ (x : List ℕ). take (length d) (drop (place_of (length d)) x)) written_message
      ∙ ap (λ (k : ℕ). take k (drop (place_of k) (body tag d ++ c))) (sym n)
      ∙ data_read tag d c a.most

  -- opening what was wrapped gives the tag, and a place and length at which the data stand
  pub open_wrapped : (opened key header (written key header tag d b place) ≡ Ok (found tag (place_of (length d)) (length d)))
      × (take (length d) (drop (place_of (length d)) (written key header tag d b place)) ≡ d)
  open_wrapped =
      let a = accepted key header tag (length d) (length b) place number_zero in
      (ap (opened key header) written_message ∙ open_made key header tag d a.are_given a.tagged a.most, data_wrapped)

-- what opening takes
pub record Taken (key header m : List ℕ) (tag place n : ℕ) : Type 0 where
  pub are_given : given key header ≡ true
  pub shaped_so : shape m ≡ true
  pub coded_so : code_fits key header m ≡ true
  pub the_tag : tag ≡ tag_of m
  pub the_place : place ≡ place_of (length_of m)
  pub the_length : n ≡ length_of m

pub taken : (key header m : List ℕ) (tag place n : ℕ) → opened key header m ≡ Ok (found tag place n) → Taken key header m tag place n
unfolding opened_under
taken key header m tag place n e = go (given key header) refl (shape m) refl (code_fits key header m) refl e
  where
    go : (x : Bool) → given key header ≡ x → (y : Bool) → shape m ≡ y → (z : Bool) → code_fits key header m ≡ z
        → cond {A = Result Found Refusal} x (cond y (cond z (Ok (found_in m)) (Err CodeDiffers)) (Err ShapeWrong)) (Err Input) ≡ Ok (found tag place n)
        → Taken key header m tag place n
    go true f true g true h w =
        let v : found tag place n ≡ found_in m = cc in
        record {
          are_given = f;
          shaped_so = g;
          coded_so = h;
          the_tag = ap (λ (x : Found). x.tag) v;
          the_place = ap (λ (x : Found). x.place) v;
          the_length = ap (λ (x : Found). x.length) v;
        }
    go true f true g false h w = absurd cc
    go true f false g z h w = absurd cc
    go false f y g z h w = absurd cc

code_there : (key header m : List ℕ) → code_fits key header m ≡ true → code_in m ≡ code_for key header (body_of m)
unfolding code_fits_under
code_there key header m e =
    let a = (and-eq-true_iff (given key header) _).0 e in
    let b = (and-eq-true_iff (shape m) _).0 a.1 in
    same_true _ _ b.1

-- a message that fits from a place on is written there
pub wraps_there : (key header : List ℕ) (tag : ℕ) (d b : List ℕ) (place : ℕ) → given key header ≡ true → tag_fits tag ≡ true → length d ≤ largest
    → place + length (message key header tag d) ≤ length b → wrapped key header tag d b place ≡ record { code = 0; buffer = laid b place (message key header tag d) }
wraps_there key header tag d b place g t l h =
    let s = message_size key header tag d in
    wrap_accepted key header tag d b place
    (sym (wrap_fits key header tag (length d) (length b) place true (sym g) refl true (sym t) refl l (omega arith) (place_of (length d)) refl (omega arith)))

-- wrapping what opening took, at any place of any buffer into which it fits, lays its bytes there
pub wrap_opened : (key header m : List ℕ) (tag place n : ℕ) → opened key header m ≡ Ok (found tag place n) → (b : List ℕ) (p : ℕ) → p + length m ≤ length b
    → wrapped key header tag (take n (drop place m)) b p ≡ record { code = 0; buffer = laid b p m }
unfolding data_of_under message_under
wrap_opened key header m tag place n e b p l =
    let t = taken key header m tag place n e in
    let q = shape_parts m t.shaped_so in
    let d = take n (drop place m) in
    let f : d ≡ data_of m = ap₂ (λ (x y : ℕ). take x (drop y m)) t.the_length t.the_place in
    let g : body tag d ≡ body_of m = ap₂ body t.the_tag f ∙ sym q.its_body in
    let w : message key header tag d ≡ m =
    ap (λ (x : List ℕ). x ++ code_for key header x) g
    ∙ ap₂ (λ (x y : List ℕ). x ++ y) q.its_body (sym (code_there key header m t.coded_so))
    ∙ sym q.whole
    in
    let s : length d ≡ length_of m = ap length f ∙ q.sized in
    let o : length d ≤ largest = omega (arith, q.most) in
    wraps_there key header tag d b p t.are_given (ap tag_fits t.the_tag ∙ q.tagged) o (omega (arith, ap length w))
    ∙ ap {B = Written} (λ (x : List ℕ). record { code = 0; buffer = laid b p x }) w
