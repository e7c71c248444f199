-- A table that was written as bytes is read as the same table. Assumes nothing.
use Prim.Native.Nat.{ℕ, zero, suc, ◌+◌, ◌*◌}
use native.Mathlib.Omega.{arith}
use native.Mathlib.Nat.{add-zero}
use mathlib.Core.Path.{◌≡◌, refl, sym, ap, ap₂, ◌∙◌}
use mathlib.Core.Bool.{Bool, true, false, not}
use mathlib.Core.List.{List, [], ◌∷◌, ◌++◌, append_assoc}
use lib.Dec.{eqb}
use lib.ListN.{length, get_or, take, length-append}
use lib.Seq.{take_at, drop-append-add, get_or-append-add}
use Rattle.octets.specs.Numbers.{be, be_octets}
use Rattle.octets.proofs.NumberLaws.{length-be_octets, be-be_octets}
use Rattle.octets.proofs.Parts.{elements_all}
use Rattle.table.specs.declared.Entry.{Entry}
use Rattle.table.specs.Calls.{empty}
use Rattle.stored.specs.Form.{entry_at, flag, entry_out, entries_from, table_out}
use Rattle.lent.specs.Lent.{Sized, ReadsWritten}

-- every place has the sizes
abbrev pub AllSized : List Entry → Type 0
AllSized t = (i : ℕ) → Sized (get_or t i empty)

flag_read : (x : Bool) → not (eqb (flag x) 0) ≡ x
unfolding flag
flag_read true = refl
flag_read false = refl

same_entry : {h h' : Bool} {d d' : List ℕ} {c c' s s' : ℕ} {k k' : Bool} {l l' : ℕ} → h ≡ h' → d ≡ d' → c ≡ c' → s ≡ s' → k ≡ k' → l ≡ l'
    → ◌≡◌ {A = Entry} (record { held = h; id = record { digits = d; count = c; sequence = s }; known = k; last = l })
    (record { held = h'; id = record { digits = d'; count = c'; sequence = s' }; known = k'; last = l' })
same_entry e f g i j o = cc

-- an element behind a part of a known length
behind : (p q : List ℕ) (n m k : ℕ) → length p ≡ n → k ≡ n + m → get_or (p ++ q) k 0 ≡ get_or q m 0
behind p q n m k e f = ap (λ (j : ℕ). get_or (p ++ q) j 0) (f ∙ ap (λ (j : ℕ). j + m) (sym e)) ∙ get_or-append-add p q m 0

-- the bytes of an entry behind others, read one by one
module _ (pre : List ℕ) (f c : ℕ) (d : List ℕ) (n : length d ≡ 19) (s k x y : ℕ) (rest : List ℕ) where
  abbrev tail : List ℕ
  tail = s ∷ k ∷ x ∷ y ∷ rest

  abbrev all : List ℕ
  all = pre ++ f ∷ c ∷ (d ++ tail)

  front : (i : ℕ) → get_or all (length pre + i) 0 ≡ get_or (f ∷ c ∷ (d ++ tail)) i 0
  front i = get_or-append-add pre (f ∷ c ∷ (d ++ tail)) i 0

  back : (i j : ℕ) → j ≡ 19 + i → get_or all (length pre + suc (suc j)) 0 ≡ get_or tail i 0
  back i j e = front (suc (suc j)) ∙ behind d tail 19 i j n e

  read_bytes : entry_at all (length pre) ≡ record { held = not (eqb f 0); id = record { digits = d; count = c; sequence = s }; known = not (eqb k 0); last = be (x ∷ y ∷ []) }
  unfolding entry_at
  read_bytes =
      same_entry (ap (λ (z : ℕ). not (eqb z 0)) (ap (λ (j : ℕ). get_or all j 0) (sym (add-zero (length pre))) ∙ front 0))
      (ap (take 19) (drop-append-add pre (f ∷ c ∷ (d ++ tail)) 2) ∙ take_at d tail 19 n)
      (front 1)
      (back 0 19 refl)
      (ap (λ (z : ℕ). not (eqb z 0)) (back 1 20 refl))
      (ap₂ (λ (u v : ℕ). be (u ∷ v ∷ [])) (back 2 21 refl) (back 3 22 refl))

-- an entry that was written, between any bytes
two : (n : ℕ) → be_octets 2 n ≡ get_or (be_octets 2 n) 0 0 ∷ get_or (be_octets 2 n) 1 0 ∷ []
two n = elements_all (be_octets 2 n) 2 (length-be_octets 2 n)

written_as : (e : Entry) (rest : List ℕ)
    → entry_out e ++ rest ≡ flag e.held ∷ e.id.count ∷ (e.id.digits ++ (e.id.sequence ∷ flag e.known ∷ get_or (be_octets 2 e.last) 0 0 ∷ get_or (be_octets 2 e.last) 1 0 ∷ rest))
unfolding entry_out
written_as e rest =
    ap (λ (l : List ℕ). flag e.held ∷ e.id.count ∷ l) (append_assoc e.id.digits _ rest)
    ∙ ap (λ (o : List ℕ). flag e.held ∷ e.id.count ∷ (e.id.digits ++ (e.id.sequence ∷ flag e.known ∷ (o ++ rest)))) (two e.last)

read_entry : (pre : List ℕ) (e : Entry) (rest : List ℕ) → Sized e → entry_at (pre ++ (entry_out e ++ rest)) (length pre) ≡ e
read_entry pre e rest z =
    let o : List ℕ = be_octets 2 e.last in
    ap (λ (l : List ℕ). entry_at (pre ++ l) (length pre)) (written_as e rest)
    ∙ read_bytes pre (flag e.held) e.id.count e.id.digits z.digits e.id.sequence (flag e.known) (get_or o 0 0) (get_or o 1 0) rest
    ∙ same_entry (flag_read e.held) refl refl refl (flag_read e.known) (ap be (sym (two e.last)) ∙ be-be_octets 2 e.last z.last)

entry_length : (e : Entry) → Sized e → length (entry_out e) ≡ 25
unfolding entry_out
entry_length e z =
    let o : List ℕ = be_octets 2 e.last in
    let n : length o ≡ 2 = length-be_octets 2 e.last in
    let m : length (e.id.digits ++ (e.id.sequence ∷ flag e.known ∷ o)) ≡ length e.id.digits + suc (suc (length o)) = length-append e.id.digits _ in
    omega (arith, z.digits)

pub out_length : (t : List Entry) → AllSized t → length (table_out t) ≡ 25 * length t
unfolding table_out
out_length [] z = refl
out_length (e ∷ t) z = length-append (entry_out e) (table_out t) ∙ omega (arith, entry_length e (z zero), out_length t (λ i. z (suc i)))

read_from : (t : List Entry) (pre : List ℕ) → AllSized t → entries_from (length t) (length pre) (pre ++ table_out t) ≡ t
unfolding entries_from table_out
read_from [] pre z = refl
read_from (e ∷ t) pre z =
    let n : length (pre ++ entry_out e) ≡ length pre + 25 = length-append pre (entry_out e) ∙ ap (λ (k : ℕ). length pre + k) (entry_length e (z zero)) in
    ap₂ (λ (x : Entry) (l : List Entry). x ∷ l) (read_entry pre e (table_out t) (z zero))
    (ap₂ (λ (k : ℕ) (l : List ℕ). entries_from (length t) k l) (sym n) (sym (append_assoc pre (entry_out e) (table_out t))) ∙ read_from t (pre ++ entry_out e) (λ i. z (suc i)))

pub reads_written : ReadsWritten
reads_written t n z = ap (λ (k : ℕ). entries_from k 0 (table_out t)) (sym n) ∙ read_from t [] z
