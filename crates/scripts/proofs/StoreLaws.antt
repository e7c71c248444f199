-- Tag, length field and data, as they are stored. Assumes nothing.
use mathlib.Core.Path.{◌≡◌, sym, ap, ap₂, ◌∙◌}
use mathlib.Core.Bool.{true}
use mathlib.Core.List.{List, [], ◌∷◌, ◌++◌, append_assoc}
use Prim.Native.Nat.{ℕ, ◌+◌, ◌≤◌, ◌<◌}
use native.Mathlib.Numerals.{add-one}
use native.Mathlib.Omega.{arith}
use lib.ListN.{length, take, drop, set, length-drop}
use lib.Seq.{sets-eq, drop-drop, length-take-le}
use borrow.Rule.Slice.PartMut.{put_mid}
use Rattle.octets.specs.Laid.{laid}
use Rattle.shapes.specs.Length.{largest_short, length_field}
use Rattle.shapes.proofs.LengthLaws.{field_short, field_long}
use Rattle.templates.specs.declared.Holder.{Holder}
use Rattle.templates.specs.declared.Holder.TheVariants.{Outer, Fresh, Begun}
use Rattle.templates.specs.Grammar.{template1, template2, identifier_tag, tag_bytes}
use Rattle.templates.specs.Reading.{stands}
use Rattle.templates.proofs.ParseLaws.{InOuter, a_script, an_outer, in_outer, InFresh, an_identifier, a_command, in_fresh, in_begun}
use Rattle.templates.proofs.HeadLaws.{Tagged, one, two, tagged}
use Rattle.scripts.specs.Inner.{Stood, Laid}

-- one or two bytes
stored_one : (b : List ℕ) (p x : ℕ) (s : List ℕ) → s ≡ x ∷ [] → p + length s ≤ length b → Laid b p s (p + 1) (set b p x)
unfolding laid
stored_one b p x s e h =
    let l : length s ≡ 1 = ap length e in
    record { next = omega arith; buffer = sets-eq (x ∷ []) b p (omega arith) ∙ ap (laid b p) (sym e) }

stored_two : (b : List ℕ) (p x y : ℕ) (s : List ℕ) → s ≡ x ∷ y ∷ [] → p + length s ≤ length b → Laid b p s (p + 2) (set (set b p x) (p + 1) y)
unfolding laid
stored_two b p x y s e h =
    let l : length s ≡ 2 = ap length e in
    record { next = omega arith; buffer = ap (λ (k : ℕ). set (set b p x) k y) (add-one p) ∙ sets-eq (x ∷ y ∷ []) b p (omega arith) ∙ ap (laid b p) (sym e) }

pub bytes_two : (t : ℕ) → t ≡ identifier_tag → tag_bytes t ≡ 0x9f ∷ 0x18 ∷ []
bytes_two t e = go (tagged t)
  where
    go : Tagged t → tag_bytes t ≡ 0x9f ∷ 0x18 ∷ []
    go (two i a b) = b
    go (one i a b) = absurd (i e)

pub bytes_one : (t : ℕ) → (t ≡ identifier_tag → ⊥) → tag_bytes t ≡ t ∷ []
bytes_one t e = go (tagged t)
  where
    go : Tagged t → tag_bytes t ≡ t ∷ []
    go (two i a b) = absurd (e i)
    go (one i a b) = b

pub tag_two : (b : List ℕ) (p t : ℕ) → t ≡ identifier_tag → p + length (tag_bytes t) ≤ length b → Laid b p (tag_bytes t) (p + 2) (set (set b p 0x9f) (p + 1) 0x18)
tag_two b p t e h = stored_two b p 0x9f 0x18 (tag_bytes t) (bytes_two t e) h

pub tag_one : (b : List ℕ) (p t : ℕ) → (t ≡ identifier_tag → ⊥) → p + length (tag_bytes t) ≤ length b → Laid b p (tag_bytes t) (p + 1) (set b p t)
tag_one b p t e h = stored_one b p t (tag_bytes t) (bytes_one t e) h

-- a tag that stands somewhere is the identifier's or a byte
pub tag_low : (t : ℕ) → Stood t → (t ≡ identifier_tag → ⊥) → t < 256
tag_low t s n = go s.holder s.stood
  where
    outer : InOuter t → t < 256
    outer (a_script template1 i) = omega arith
    outer (a_script template2 i) = omega arith
    outer (an_outer i) = omega arith

    fresh : InFresh t → t < 256
    fresh (an_identifier i) = absurd (n i)
    fresh (a_command i) = omega arith

    go : (h : Holder) → stands h t ≡ true → t < 256
    go Outer e = outer (in_outer t e)
    go Fresh e = fresh (in_fresh t e)
    go Begun e = let i = in_begun t e in omega arith

pub field_two : (b : List ℕ) (p n : ℕ) → largest_short < n → p + length (length_field n) ≤ length b
    → Laid b p (length_field n) (p + 2) (set (set b p 0x81) (p + 1) n)
field_two b p n e h = stored_two b p 0x81 n (length_field n) (field_long n e) h

pub field_one : (b : List ℕ) (p n : ℕ) → n ≤ largest_short → p + length (length_field n) ≤ length b → Laid b p (length_field n) (p + 1) (set b p n)
field_one b p n e h = stored_one b p n (length_field n) (field_short n e) h

-- bytes copied
pub data_laid : (b : List ℕ) (p : ℕ) (s : List ℕ) (q n k j : ℕ) (x : List ℕ) → q + n ≤ length s → k ≡ n → j ≡ n → x ≡ take j (drop q s)
    → Laid b p (take n (drop q s)) (p + n) (put_mid p k b x)
unfolding laid
data_laid b p s q n k j x h f g e =
    let l : length (take n (drop q s)) ≡ n = length-take-le n (drop q s) (simp length-drop (omega arith)) in
    record {
      next = omega arith;
      buffer =
          ap₂ (λ (y z : List ℕ). take p b ++ (y ++ z))
          (e ∙ ap (λ (i : ℕ). take i (drop q s)) g)
          (drop-drop k p b ∙ ap (λ (i : ℕ). drop (p + i) b) (f ∙ sym l))
          ∙ sym (append_assoc (take p b) (take n (drop q s)) (drop (p + length (take n (drop q s))) b));
    }
