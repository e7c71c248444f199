-- Objects written one after the other, and what writing answers. Assumes nothing.
use Rattle.std.specs.Prelude.{Ok, Err}
use Rattle.answers.specs.declared.Refusal.{Refusal}
use Rattle.answers.specs.declared.Refusal.TheVariants.{NoRoom}
use Rattle.answers.specs.Refusals.{number}
use Rattle.answers.proofs.Laws.{not_zero}
use mathlib.Core.Path.{◌≡◌, refl, sym, ap, subst, ◌∙◌}
use mathlib.Core.Bool.{Bool, true, false, ◌&&◌, ◌||◌, not, cond}
use mathlib.Core.List.{List, [], ◌∷◌, ◌++◌, append_assoc, append-nil}
use Prim.Native.Nat.{ℕ, ◌+◌, ◌/◌, ◌≤◌, ◌<◌}
use native.Mathlib.Nat.{add-zero}
use native.Mathlib.Omega.{arith}
use borrow.Author.Tests.{eq-eqb, ne_eqb, leb-true, not-true, not-false, eqb-false}
use lib.Dec.{eqb, leb}
use lib.ListN.{length, take, drop, get_or, length-append, length-drop, take-append-drop}
use lib.Seq.{length-take-le}
use Rattle.octets.specs.Laid.{laid}
use Rattle.octets.proofs.LaidLaws.{length-laid, laid_laid}
use Rattle.shapes.specs.Length.{largest, length_field}
use Rattle.templates.specs.declared.Object.{Object}
use Rattle.templates.specs.Grammar.{tag_bytes, head_size}
use Rattle.templates.specs.Reading.{is_data}
use Rattle.templates.proofs.HeadLaws.{both}
use Rattle.scripts.specs.Writing.{said, lies, all_lie, own_length, added_by, bytes_within, length_of_first, data_in, bytes_of, check_number, write_number, write_size, write_after, Wrote}
use Rattle.scripts.specs.Inner.{from, Taken, length_at, Within, Table, Stood, Laid, own_bytes, Fits, Writable, more, Ready}
use Rattle.scripts.proofs.FromLaws.{from_next, from_end, said_from}
use Rattle.scripts.proofs.WithinLaws.{within_none, within_open, all_measured}
use Rattle.scripts.proofs.FaultLaws.{Accepted, accepted}

-- the data of an object that has its own
module _ (s : List ℕ) (o : Object) where
  pub data_some : is_data o.tag ≡ true → data_in s o ≡ take o.length (drop o.place s)
  unfolding data_in
  data_some e = simp e

  pub data_none : is_data o.tag ≡ false → data_in s o ≡ []
  unfolding data_in
  data_none e = simp e

  pub data_lies : is_data o.tag ≡ true → lies s o ≡ true → o.place + o.length ≤ length s
  unfolding lies
  data_lies e l = leb-true _ _ (both {a = leb o.length largest}
      (ap (λ (x : Bool). not x || (leb o.length largest && leb (o.place + o.length) (length s))) (sym e) ∙ l)).1

  pub data_length_lem : is_data o.tag ≡ true → lies s o ≡ true → length (data_in s o) ≡ o.length
  data_length_lem e l =
      let h = data_lies e l in
      ap length (data_some e) ∙ length-take-le o.length (drop o.place s) (simp length-drop (omega arith))

-- strings laid one after the other
laid_then : (b : List ℕ) (p : ℕ) (s : List ℕ) (q : ℕ) (y t : List ℕ) (r : ℕ) (z : List ℕ) → p + length s ≤ length b → Laid b p s q y → Laid y q t r z
    → Laid b p (s ++ t) r z
laid_then b p s q y t r z h f g =
    let a = length-append s t in
    let i = f.next in
    let j = g.next in
    record {
      next = omega arith;
      buffer = g.buffer ∙ ap (λ (x : List ℕ). laid x q t) f.buffer ∙ laid_laid b p s h t q i;
    }

laid_length : (b : List ℕ) (p : ℕ) (s : List ℕ) (q : ℕ) (y : List ℕ) → p + length s ≤ length b → Laid b p s q y → length y ≡ length b
laid_length b p s q y h f = ap length f.buffer ∙ length-laid b p s h

laid_none : (b : List ℕ) (p : ℕ) → laid b p [] ≡ b
unfolding laid
laid_none b p =
    ap (λ (k : ℕ). take p b ++ [] ++ drop k b) (add-zero p) ∙ ap (λ (x : List ℕ). x ++ drop p b) (append-nil (take p b)) ∙ take-append-drop p b

-- one object
module _ (out : List ℕ) (p : ℕ) (s : List ℕ) (o : Object) (n : ℕ) (fits : Fits s o n (length out) p) where
  sized : length (own_bytes s o n) ≡ length (tag_bytes o.tag) + (length (length_field n) + length (data_in s o))
  unfolding own_bytes
  sized =
      let a = length-append (tag_bytes o.tag) (length_field n ++ data_in s o) in
      let b = length-append (length_field n) (data_in s o) in
      omega arith

  pub tag_room : p + length (tag_bytes o.tag) ≤ length out
  tag_room = let a = sized in let r = fits.room in omega arith

  module _ (f : ℕ) (x : List ℕ) (lt : Laid out p (tag_bytes o.tag) f x) where
    pub field_room : f + length (length_field n) ≤ length x
    field_room =
        let a = sized in
        let r = fits.room in
        let i = lt.next in
        let l = laid_length out p (tag_bytes o.tag) f x tag_room lt in
        omega arith

    module _ (q : ℕ) (y : List ℕ) (ll : Laid x f (length_field n) q y) where
      head_room : p + length (tag_bytes o.tag ++ length_field n) ≤ length out
      head_room =
          let a = sized in
          let r = fits.room in
          let b = length-append (tag_bytes o.tag) (length_field n) in
          omega arith

      head_laid : Laid out p (tag_bytes o.tag ++ length_field n) q y
      head_laid = laid_then out p (tag_bytes o.tag) f x (length_field n) q y tag_room lt ll

      own_laid : (r : ℕ) (z : List ℕ) → Laid out p ((tag_bytes o.tag ++ length_field n) ++ data_in s o) r z → Laid out p (own_bytes s o n) r z
      unfolding own_bytes
      own_laid r z l = subst (λ (u : List ℕ). Laid out p u r z) (append_assoc (tag_bytes o.tag) (length_field n) (data_in s o)) l

      module _ (d : Bool) (e : d ≡ is_data o.tag) where
        pub template_done : not d ≡ true → Laid out p (own_bytes s o n) q y
        template_done h =
            own_laid q y
            (subst (λ (u : List ℕ). Laid out p ((tag_bytes o.tag ++ length_field n) ++ u) q y) (sym (data_none s o (sym e ∙ not-true d h)))
            (subst (λ (u : List ℕ). Laid out p u q y) (sym (append-nil (tag_bytes o.tag ++ length_field n))) head_laid))

        module _ (h : not d ≡ false) where
          pub data_source : o.place + o.length ≤ length s
          data_source = data_lies s o (sym e ∙ not-false d h) fits.lie

          pub data_room : q + o.length ≤ length y
          data_room =
              let a = sized in
              let r = fits.room in
              let i = lt.next in
              let j = ll.next in
              let m = data_length_lem s o (sym e ∙ not-false d h) fits.lie in
              let v = laid_length out p (tag_bytes o.tag ++ length_field n) q y head_room head_laid in
              omega arith

          pub data_done : (r : ℕ) (z : List ℕ) → Laid y q (take o.length (drop o.place s)) r z → Laid out p (own_bytes s o n) r z
          data_done r z l =
              own_laid r z
              (laid_then out p (tag_bytes o.tag ++ length_field n) q y (data_in s o) r z head_room head_laid
              (subst (λ (u : List ℕ). Laid y q u r z) (sym (data_some s o (sym e ∙ not-false d h))) l))

-- all objects: what is left from i on can be written at place p
pub record Left (n : ℕ) (b s : List ℕ) (i : ℕ) (size p : ℕ) : Type 0 where
  pub can : Writable (from n b i)
  pub lie : all_lie s (from n b i) ≡ true
  pub room : p + length (bytes_of s (from n b i)) ≤ size

-- and then the buffer is e
pub record Turned (n : ℕ) (b s : List ℕ) (i : ℕ) (size p : ℕ) (out e : List ℕ) : Type 0 where
  pub kept : length out ≡ size
  pub left : Left n b s i size p
  pub same : laid out p (bytes_of s (from n b i)) ≡ e

abbrev pub count : List ℕ → ℕ
count b = length b / 10

pub left_all : (b s t : List ℕ) (size p : ℕ) → Ready b s t size p → Left (count b) b s 0 size p
left_all b s t size p r =
    let e = said_from b in
    record {
      can = subst Writable e r.can;
      lie = subst (λ (os : List Object). all_lie s os ≡ true) e r.lie;
      room = subst (λ (os : List Object). p + length (bytes_of s os) ≤ size) e r.room;
    }

pub table_all : (b t : List ℕ) → count b ≤ 32 → Table b t → Within (count b) b 0 t
unfolding Table
table_all b t h w = subst (λ (n : ℕ). Within n b 0 t) (all_measured (count b) (omega arith)) w

pub lie_parts : (s : List ℕ) (o : Object) (os : List Object) → all_lie s (o ∷ os) ≡ true → (lies s o ≡ true) × (all_lie s os ≡ true)
unfolding all_lie
lie_parts s o os e = both e

pub record Parts (o : Object) (os : List Object) : Type 0 where
  pub tag : Stood o.tag
  pub most : length_of_first o os ≤ largest
  pub low : 1 ≤ o.level
  pub rest : Writable os

pub parts : (o : Object) (os : List Object) → Writable (o ∷ os) → Parts o os
parts o os (more t m l w) = record { tag = t; most = m; low = l; rest = w }

bytes_next : (s : List ℕ) (o : Object) (os : List Object) → bytes_of s (o ∷ os) ≡ own_bytes s o (length_of_first o os) ++ bytes_of s os
unfolding bytes_of own_bytes
bytes_next s o os =
    let t = tag_bytes o.tag in
    let f = length_field (length_of_first o os) in
    ap (λ (x : List ℕ). t ++ x) (sym (append_assoc f (data_in s o) (bytes_of s os))) ∙ sym (append_assoc t (f ++ data_in s o) (bytes_of s os))

module _ (n : ℕ) (b s t : List ℕ) (w : Within n b 0 t) (i : ℕ) (h : i < n) (size p : ℕ) (l : Left n b s i size p) (o : Object) (ta : Taken b i o) where
  abbrev here : ℕ
  here = get_or t i 0

  abbrev rest : List Object
  rest = from n b (i + 1)

  rests : from n b i ≡ o ∷ rest
  rests = from_next n b i h ∙ ap (λ (z : Object). z ∷ rest) (sym ta.is)

  is_length : here ≡ length_of_first o rest
  unfolding length_at
  is_length = w.each i (omega arith) h ∙ ap (λ (z : Object). length_of_first z rest) (sym ta.is)

  bytes_here : bytes_of s (from n b i) ≡ own_bytes s o here ++ bytes_of s rest
  bytes_here = ap (bytes_of s) rests ∙ bytes_next s o rest ∙ ap (λ (k : ℕ). own_bytes s o k ++ bytes_of s rest) (sym is_length)

  its_parts : Parts o rest
  its_parts = parts o rest (subst Writable rests l.can)

  its_lies : (lies s o ≡ true) × (all_lie s rest ≡ true)
  its_lies = lie_parts s o rest (subst (λ (os : List Object). all_lie s os ≡ true) rests l.lie)

  whole_room : p + (length (own_bytes s o here) + length (bytes_of s rest)) ≤ size
  whole_room =
      let a = l.room in
      let e = ap length bytes_here in
      let f = length-append (own_bytes s o here) (bytes_of s rest) in
      omega arith

  pub object_fits : (out : List ℕ) → length out ≡ size → Fits s o here (length out) p
  object_fits out e =
      let r = whole_room in
      record {
        tag = its_parts.tag;
        most = subst (λ (k : ℕ). k ≤ largest) (sym is_length) its_parts.most;
        lie = its_lies.0;
        room = omega arith;
      }

  module _ (out : List ℕ) (e : length out ≡ size) (r : ℕ) (z : List ℕ) (la : Laid out p (own_bytes s o here) r z) where
    left_turn : Left n b s (i + 1) size r
    left_turn = let a = whole_room in let j = la.next in record { can = its_parts.rest; lie = its_lies.1; room = omega arith }

    laid_turn : laid z r (bytes_of s rest) ≡ laid out p (bytes_of s (from n b i))
    laid_turn =
        let a = whole_room in
        ap (λ (x : List ℕ). laid x r (bytes_of s rest)) la.buffer
        ∙ laid_laid out p (own_bytes s o here) (omega arith) (bytes_of s rest) r la.next
        ∙ ap (laid out p) (sym bytes_here)

    length_turn : length z ≡ size
    length_turn = let a = whole_room in laid_length out p (own_bytes s o here) r z (omega arith) la ∙ e

    pub turned : Turned n b s (i + 1) size r z (laid out p (bytes_of s (from n b i)))
    turned = record { kept = length_turn; left = left_turn; same = laid_turn }

pub laid_end : (n : ℕ) (b s : List ℕ) (i : ℕ) (out : List ℕ) (p : ℕ) → n ≤ i → out ≡ laid out p (bytes_of s (from n b i))
unfolding bytes_of
laid_end n b s i out p h = sym (ap (λ (os : List Object). laid out p (bytes_of s os)) (from_end n b i h) ∙ laid_none out p)

-- the size of all
own_size : (s : List ℕ) (o : Object) (n : ℕ) → lies s o ≡ true → length (own_bytes s o n) ≡ added_by o n
unfolding own_bytes added_by head_size own_length
own_size s o n l = go (is_data o.tag) refl
  where
    a : length (tag_bytes o.tag ++ (length_field n ++ data_in s o)) ≡ length (tag_bytes o.tag) + (length (length_field n) + length (data_in s o))
    a =
        let x = length-append (tag_bytes o.tag) (length_field n ++ data_in s o) in
        let y = length-append (length_field n) (data_in s o) in
        omega arith

    go : (d : Bool) → is_data o.tag ≡ d
        → length (tag_bytes o.tag ++ (length_field n ++ data_in s o)) ≡ length (tag_bytes o.tag) + length (length_field n) + cond (is_data o.tag)
        o.length 0
    go true e =
        let x = data_length_lem s o e l in
        let y : cond (is_data o.tag) o.length 0 ≡ o.length = ap (λ (z : Bool). cond z o.length 0) e in
        let z = a in
        omega arith
    go false e =
        let x : length (data_in s o) ≡ 0 = ap length (data_none s o e) in
        let y : cond (is_data o.tag) o.length 0 ≡ 0 = ap (λ (z : Bool). cond z o.length 0) e in
        let z = a in
        omega arith

pub bytes_size : (s : List ℕ) (os : List Object) → Writable os → all_lie s os ≡ true → bytes_within 0 os ≡ length (bytes_of s os)
unfolding bytes_of
bytes_size s [] w e = within_none 0
bytes_size s (o ∷ os) w e =
    let p = parts o os w in
    let l = p.low in
    let v = lie_parts s o os e in
    let i = bytes_size s os p.rest v.1 in
    let a = within_open 0 o os (omega arith) in
    let b = ap length (bytes_next s o os) in
    let c = length-append (own_bytes s o (length_of_first o os)) (bytes_of s os) in
    let d = own_size s o (length_of_first o os) v.0 in
    omega arith

-- what writing answers
module _ (b s out : List ℕ) (p : ℕ) where
  pub refused : (q : Refusal) → number q ≡ check_number b s → Wrote b s out p (Err q) out
  unfolding write_number write_size write_after
  refused q e =
      let n : number q ≡ 0 → ⊥ = eqb-false _ _ (not_zero q) in
      let w : write_number b s out p ≡ check_number b s = number_refused in
      let z : eqb (write_number b s out p) 0 ≡ false = ne_eqb _ _ (λ i. n (e ∙ sym w ∙ i)) in
      record {
        code_is = e ∙ sym w;
        size_is = sym (ap (λ (x : Bool). cond x (length (bytes_of s (said b))) 0) z);
        buffer_is = sym
            (ap (λ (x : Bool). cond x (laid out p (bytes_of s (said b))) out) z);
      }
    where
      number_refused : write_number b s out p ≡ check_number b s
      number_refused = simp (ne_eqb (check_number b s) 0 (λ i. eqb-false _ _ (not_zero q) (e ∙ i)))

  module _ (t : List ℕ) (w : Table b t) (z : 0 ≡ check_number b s) where
    pub granted : Accepted b s
    granted = accepted b s (sym z)

    pub measured_all : Within (count b) b 0 t
    measured_all = table_all b t granted.few w

    module _ (size : ℕ) (g : size ≡ bytes_within 0 (from (count b) b 0)) (r : Bool) (f : r ≡ leb (p + size) (length out)) where
      is_size : size ≡ length (bytes_of s (said b))
      is_size = g ∙ ap (bytes_within 0) (sym (said_from b)) ∙ bytes_size s (said b) granted.can granted.lie

      is_room : leb (p + length (bytes_of s (said b))) (length out) ≡ r
      is_room = ap (λ (m : ℕ). leb (p + m) (length out)) (sym is_size) ∙ sym f

      pub number_is : write_number b s out p ≡ cond r 0 3
      unfolding write_number
      number_is = simp (eq-eqb (check_number b s) 0 (sym z), is_room)

      pub no_room : not r ≡ true → Wrote b s out p (Err NoRoom) out
      unfolding write_size write_after
      no_room h =
          let c : write_number b s out p ≡ 3 = number_is ∙ ap (λ (x : Bool). cond x 0 3) (not-true r h) in
          record {
            code_is = sym c;
            size_is = sym (ap (λ (x : ℕ). cond (eqb x 0) (length (bytes_of s (said b))) 0) c);
            buffer_is = sym
                (ap (λ (x : ℕ). cond (eqb x 0) (laid out p (bytes_of s (said b))) out) c);
          }

      module _ (h : not r ≡ false) where
        pub ready : Ready b s t (length out) p
        ready =
            record {
              table = w;
              few = granted.few;
              can = granted.can;
              lie = granted.lie;
              room = leb-true _ _ (is_room ∙ not-false r h);
            }

        pub written : (y : List ℕ) → y ≡ laid out p (bytes_of s (said b)) → Wrote b s out p (Ok size) y
        unfolding write_size write_after
        written y i =
            let c : write_number b s out p ≡ 0 = number_is ∙ ap (λ (x : Bool). cond x 0 3) (not-false r h) in
            record {
              code_is = sym c;
              size_is = is_size ∙ sym (ap (λ (x : ℕ). cond (eqb x 0) (length (bytes_of s (said b))) 0) c);
              buffer_is = i ∙ sym (ap (λ (x : ℕ). cond (eqb x 0) (laid out p (bytes_of s (said b))) out) c);
            }
