-- A table and its bytes, entry by entry. Assumes nothing.
use Prim.Native.Nat.{ℕ, zero, suc, ◌+◌, ◌-◌, ◌*◌, ◌<◌}
use native.Mathlib.Omega.{arith}
use native.Mathlib.Numerals.{add-one}
use mathlib.Core.Path.{◌≡◌, refl, sym, ap, ap₂, ◌∙◌, subst, subst⁻¹}
use mathlib.Core.Bool.{Bool, true, false, not}
use mathlib.Core.List.{List, [], ◌∷◌, ◌++◌, append-nil, append_assoc}
use lib.Dec.{eqb}
use lib.ListN.{length, get_or, take, drop, set, length-append}
use lib.Seq.{paste, paste-zero, take_all, take-suc, ext_get_or}
use mir.Val.{bool_byte}
use borrow.Rule.Slice.PartMut.{post_of, put_mid}
use denote.Param.Members.{Mut}
use Rattle.std.specs.Array.{IsFromFnResult, IsFromFnResultFrom}
use Rattle.std.specs.Fn.{Called}
use Rattle.octets.specs.Numbers.{be, be_octets}
use Rattle.octets.proofs.NumberLaws.{length-be_octets}
use Rattle.octets.proofs.Parts.{elements, elements_all}
use Rattle.table.specs.declared.Entry.{Entry}
use Rattle.std.proofs.lemmas.Slice.{put_mid-paste}
use Rattle.parts.proofs.LayLaws.{laid_then, laid_all}
use Rattle.stored.specs.Form.{entry_at, flag, entry_out, entries_from, table_in, table_out}

flag_byte : (x : Bool) → bool_byte x ≡ flag x
unfolding flag
flag_byte true = refl
flag_byte false = refl

-- the bytes of an entry: its mark and its number of digits, and then what was laid over zeros
abbrev inner : List ℕ → ℕ → ℕ → List ℕ
inner d s k = set (set (d ++ (0 ∷ 0 ∷ 0 ∷ 0 ∷ [])) 19 s) 20 k

abbrev made : ℕ → ℕ → List ℕ → ℕ → ℕ → List ℕ → List ℕ
made h n d s k l = h ∷ n ∷ (take 21 (inner d s k) ++ (l ++ post_of 23 2 (h ∷ n ∷ inner d s k)))

laid_over : (h n : ℕ) (d : List ℕ) (s k : ℕ) (l : List ℕ) → length d ≡ 19 → length l ≡ 2 → made h n d s k l ≡ h ∷ n ∷ (d ++ (s ∷ k ∷ l))
laid_over h n d s k l p q =
    subst⁻¹ (λ (x : List ℕ). made h n x s k l ≡ h ∷ n ∷ (x ++ (s ∷ k ∷ l))) (elements_all d 19 p)
    (subst⁻¹ (λ (y : List ℕ). made h n (elements d 0 0 19) s k y ≡ h ∷ n ∷ (elements d 0 0 19 ++ (s ∷ k ∷ y))) (elements_all l 2 q) refl)

pub entry_made : (e : Entry) (d l m : List ℕ) → d ≡ e.id.digits → length d ≡ 19 → l ≡ m → m ≡ be_octets 2 e.last
    → made (bool_byte e.held) e.id.count d e.id.sequence (bool_byte e.known) l ≡ entry_out e
unfolding entry_out
entry_made e d l m p n q r =
    laid_over _ _ d _ _ l n (ap length (q ∙ r) ∙ length-be_octets 2 e.last)
    ∙ ap₂ (λ (h k : ℕ). h ∷ e.id.count ∷ (d ++ (e.id.sequence ∷ k ∷ l))) (flag_byte e.held) (flag_byte e.known)
    ∙ ap₂ (λ (x y : List ℕ). flag e.held ∷ e.id.count ∷ (x ++ (e.id.sequence ∷ flag e.known ∷ y))) p (q ∙ r)

-- the entry at a place, field by field
pub entry_read : (b : List ℕ) (p : ℕ) (d : List ℕ) → d ≡ take 19 (drop (p + 2) b) → (l : ℕ) → l ≡ be (get_or b (p + 23) 0 ∷ get_or b (p + 24) 0 ∷ [])
    → ◌≡◌ {A = Entry}
    (record { held = not (eqb (get_or b p 0) 0); id = record { digits = d; count = get_or b (p + 1) 0; sequence = get_or b (p + 21) 0 }; known = not (eqb (get_or b (p + 22) 0) 0); last = l })
    (entry_at b p)
unfolding entry_at
entry_read b p d e l f =
    ap₂ {C = Entry}
    (λ (x : List ℕ) (n : ℕ). record { held = not (eqb (get_or b p 0) 0); id = record { digits = x; count = get_or b (p + 1) 0; sequence = get_or b (p + 21) 0 }; known = not (eqb (get_or b (p + 22) 0) 0); last = n })
    e f

-- entries read one after the other
pub length_entries : (n p : ℕ) (b : List ℕ) → length (entries_from n p b) ≡ n
unfolding entries_from
length_entries zero p b = refl
length_entries (suc n) p b = ap suc (length_entries n (p + 25) b)

pub entries_at : (n p i : ℕ) (b : List ℕ) (z : Entry) → i < n → get_or (entries_from n p b) i z ≡ entry_at b (p + 25 * i)
unfolding entries_from
entries_at zero p i b z h = absurd (omega arith)
entries_at (suc n) p zero b z h = ap (entry_at b) (omega arith)
entries_at (suc n) p (suc i) b z h = entries_at n (p + 25) i b z (omega arith) ∙ ap (entry_at b) (omega arith)

read_all : (b : List ℕ) (t : List Entry) → length t ≡ 64 → ((i : ℕ) (z : Entry) → i < 64 → get_or t i z ≡ entry_at b (25 * i)) → t ≡ table_in b
read_all b t n f =
    let z = entry_at b 0 in
    ext_get_or z t (table_in b) (n ∙ sym (length_entries 64 0 b)) (λ i h. f i z (omega arith) ∙ ap (entry_at b) (omega arith) ∙ sym (entries_at 64 0 i b z (omega arith)))

-- an array made of the entries, one call for each
module _ {F : Type 0} (g : Mut F (ℕ × Unit {0}) Entry) (e : ℕ → Entry) where
  called_at : (n i j : ℕ) (f : F) (t : List Entry) (z : Entry) → IsFromFnResultFrom g f t i n → ((k : ℕ) (y : Entry) (q : F) → Called g f (k, tt) y q → (q ≡ f) × (y ≡ e k)) → j < n
      → get_or t (i + j) z ≡ e (i + j)
  called_at zero i j f t z h c l = absurd (omega arith)
  called_at (suc n) i zero f t z (q, y, w, d, r) c l =
      ap (λ (k : ℕ). get_or t k z) (omega arith) ∙ w.1 z ∙ (c i y q d).1 ∙ ap e (omega arith)
  called_at (suc n) i (suc j) f t z (q, y, w, d, r) c l =
      let a : i + 1 + j ≡ i + suc j = omega arith in
      subst (λ (k : ℕ). get_or t k z ≡ e k) a (called_at n (i + 1) j f t z (subst (λ (x : F). IsFromFnResultFrom g x t (i + 1) n) (c i y q d).0 r) c (omega arith))

  called_all : (n : ℕ) (f : F) (t : List Entry) → IsFromFnResult g f t n → ((k : ℕ) (y : Entry) (q : F) → Called g f (k, tt) y q → (q ≡ f) × (y ≡ e k))
      → (i : ℕ) (z : Entry) → i < n → get_or t i z ≡ e i
  called_all n f t h c i z l = let a : 0 + i ≡ i = omega arith in subst (λ (k : ℕ). get_or t k z ≡ e k) a (called_at n 0 i f t z h.each c l)

pub read_made : {F : Type 0} {g : Mut F (ℕ × Unit {0}) Entry} (b : List ℕ) (f : F) (t : List Entry) (n : ℕ) → n ≡ 64 → IsFromFnResult g f t n
    → ((k : ℕ) (y : Entry) (q : F) → Called g f (k, tt) y q → (q ≡ f) × (y ≡ entry_at b (25 * k))) → t ≡ table_in b
read_made {F} {g} b f t n e h c =
    read_all b t (h.long ∙ e) (λ i z l. called_all g (λ (k : ℕ). entry_at b (25 * k)) n f t h c i z (omega arith))

-- entries written one after the other
out_append : (s t : List Entry) → table_out (s ++ t) ≡ table_out s ++ table_out t
unfolding table_out
out_append [] t = refl
out_append (e ∷ s) t = ap (λ (x : List ℕ). entry_out e ++ x) (out_append s t) ∙ sym (append_assoc (entry_out e) (table_out s) (table_out t))

out_one : (e : Entry) → table_out (e ∷ []) ≡ entry_out e
unfolding table_out
out_one e = append-nil (entry_out e)

pub out_next : (t : List Entry) (i : ℕ) (z : Entry) → i < length t → table_out (take i t) ++ entry_out (get_or t i z) ≡ table_out (take (i + 1) t)
out_next t i z h =
    ap (λ (x : List ℕ). table_out (take i t) ++ x) (sym (out_one (get_or t i z)))
    ∙ sym (out_append (take i t) (get_or t i z ∷ []))
    ∙ ap table_out (sym (take-suc t i z h) ∙ ap (λ (k : ℕ). take k t) (sym (add-one i)))

-- b is b0 with the first i entries written over it, which are 25 i bytes
pub record Out (b0 b : List ℕ) (t : List Entry) (i : ℕ) : Type 0 where
  pub bytes : b ≡ paste b0 0 (table_out (take i t)) (25 * i)
  pub size : length (table_out (take i t)) ≡ 25 * i

pub out_start : (b : List ℕ) (t : List Entry) → Out b b t 0
unfolding table_out
out_start b t = record { bytes = paste-zero b 0 []; size = refl }

pub out_turn : (b0 b b1 : List ℕ) (t : List Entry) (i : ℕ) (z : Entry) (w : List ℕ) → length b0 ≡ 1600 → length t ≡ 64 → i < 64 → Out b0 b t i
    → w ≡ entry_out (get_or t i z) → length w ≡ 25 → b1 ≡ w → Out b0 (put_mid (25 * i) (25 * i + 25 - 25 * i) b b1) t (i + 1)
out_turn b0 b b1 t i z w l m h o e n f =
    let x = table_out (take i t) in
    let s : x ++ w ≡ table_out (take (i + 1) t) = ap (λ (y : List ℕ). x ++ y) e ∙ out_next t i z (omega arith) in
    record {
      bytes =
          laid_then b0 x w 0 (25 * i) 25 (25 * i) (25 * (i + 1)) o.size n (omega arith) (omega arith) (omega arith) o.bytes (put_mid-paste (25 * i) (25 * i + 25 - 25 * i) b b1 w 25 f (omega arith) (sym n))
          ∙ ap (λ (y : List ℕ). paste b0 0 y (25 * (i + 1))) s;
      size = sym (ap length s) ∙ length-append x w ∙ omega (arith, o.size);
    }

pub out_end : (b0 b : List ℕ) (t : List Entry) (i : ℕ) → length b0 ≡ 1600 → length t ≡ 64 → i ≡ 64 → Out b0 b t i → b ≡ table_out t
out_end b0 b t i l m h o =
    let e : take i t ≡ t = take_all i t (omega arith) in
    let n : 25 * i ≡ 1600 = omega arith in
    laid_all b0 (table_out (take i t)) 1600 l (o.size ∙ n) (o.bytes ∙ ap (paste b0 0 (table_out (take i t))) n) ∙ ap table_out e
