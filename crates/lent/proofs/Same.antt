-- The desk over a lent table answers every call of every run as the desk does. Assumes nothing.
use Prim.Native.Nat.{ℕ, zero, suc, ◌+◌, ◌*◌, ◌≤◌}
use native.Mathlib.Omega.{arith}
use mathlib.Core.Path.{◌≡◌, refl, sym, ap, ap₂, subst, subst⁻¹, ◌∙◌}
use mathlib.Core.Bool.{Bool, true, false, not, ◌&&◌, cond}
use mathlib.Core.List.{List, [], ◌∷◌}
use lib.Dec.{eqb}
use lib.ListN.{length, get_or, drop, replicate, length-drop, length-replicate}
use lib.Seq.{length-take-le}
use borrow.Author.Tests.{eq-eqb, eqb-true, eqb-false}
use Rattle.octets.specs.Numbers.{Octets}
use Rattle.octets.proofs.NumberLaws.{be_lt}
use Rattle.octets.proofs.Parts.{zeros, zeros_at, below_zeros}
use Rattle.std.specs.Prelude.{Result, Ok, Err}
use Rattle.answers.specs.declared.Refusal.{Refusal}
use Rattle.answers.specs.Answers.{number_told}
use Rattle.message.specs.Answers.{Written}
use Rattle.table.specs.declared.CardId.{CardId}
use Rattle.table.specs.declared.Entry.{Entry}
use Rattle.table.specs.Table.{same_id, names, counter_of, readings, held_count}
use Rattle.desk.specs.declared.Desk.{Desk}
use Rattle.desk.specs.declared.Checked.{Checked}
use Rattle.desk.specs.Desk.{id_of, adds, forgets, desk_after}
use Rattle.desk.specs.Check.{checks, after_check}
use Rattle.desk.specs.Wrap.{wraps}
use Rattle.desks.specs.Run.{Issuer, DeskCall, Add, Forget, Check, Wrap, DeskAnswer, reached, answered, our_answer, our_next, our_desk}
use Rattle.desks.specs.Book.{Holding, holds, gives, leaves, book, due_after}
use Rattle.desks.proofs.Laws.{each_once}
use Rattle.desks.proofs.Kept.{Kept}
use Rattle.desks.proofs.Steps.{desk_of, step_of}
use Rattle.desks.proofs.Meets.{ours_as_demanded}
use Rattle.stored.specs.Form.{entry_at, entries_from, table_in, table_out}
use Rattle.stored.specs.Lent.{lent_desk, no_key, adds_in, forgets_in, table_after, check_fits, table_checked, slice_after, wrap_fits, wraps_in}
use Rattle.stored.proofs.FormLaws.{length_entries}
use Rattle.stored.proofs.LentLaws.{table_so, check_whole, wrap_whole, lent_so}
use Rattle.lent.specs.Lent.{Sized, Host, digits_of, host_checks, host_answer, host_table, host, Keys, Octet, LentIsDesk}
use Rattle.lent.proofs.Written.{AllSized, out_length, reads_written}
use Rattle.lent.proofs.Turn.{Turn, empty_sized, two_octets, turn_adds, turn_forgets, turn_checks, adds_over, forgets_over, checks_over, wraps_over, over_told, over_checked}

abbrev host_of : Issuer → List ℕ → Host
host_of k b = record { issuer = k; table = b }

-- bytes that are the table of a desk, each entry with its sizes
record Ready (k : Issuer) (b : List ℕ) (d : Desk) : Type 0 where
  size : length b ≡ 1600
  sized : AllSized (table_in b)
  desk : d ≡ desk_of k (table_in b)

same_answer : {n n' : ℕ} {s s' : List ℕ} → n ≡ n' → s ≡ s' → ◌≡◌ {A = DeskAnswer} (record { number = n; bytes = s }) (record { number = n'; bytes = s' })
same_answer e f = ap₂ {C = DeskAnswer} (λ (n : ℕ) (s : List ℕ). record { number = n; bytes = s }) e f

packed_is : (p : Bool) → eqb (cond p 1 0) 1 ≡ p
packed_is true = refl
packed_is false = refl

digits_fit : (p : Bool) → cond p 1 0 ≤ 1
digits_fit true = omega arith
digits_fit false = omega arith

module _ (k : Issuer) (b : List ℕ) (size : length b ≡ 1600) (sized : AllSized (table_in b)) where
  abbrev t : List Entry
  t = table_in b

  abbrev d : Desk
  d = desk_of k t

  many : length t ≡ 64
  many = length_entries 64 0 b

  -- the bytes after a call
  ready_written : (u : List Entry) → Turn u → Ready k (table_out u) (desk_of k u)
  ready_written u w =
      let e : table_in (table_out u) ≡ u = reads_written u w.size w.sized in
      record { size = out_length u w.sized ∙ omega (arith, w.size); sized = subst⁻¹ AllSized e w.sized; desk = ap (desk_of k) (sym e) }

  ready_kept : Ready k b d
  ready_kept = record { size = size; sized = sized; desk = refl }

  ready_told : (r : Result Desk Refusal) → Turn (desk_after (over_told d r) d).places → Ready k (table_after r b) (desk_after (over_told d r) d)
  ready_told (Ok e) w = ready_written e.places w
  ready_told (Err q) w = ready_kept

  ready_checked : (r : Result Checked Refusal) → Turn (after_check (over_checked d r) d).desk.places → Ready k (table_checked r b) (after_check (over_checked d r) d).desk
  ready_checked (Ok x) w = ready_written x.desk.places w
  ready_checked (Err q) w = ready_kept

  told_number : (r : Result Desk Refusal) → number_told r ≡ number_told (over_told d r)
  told_number (Ok e) = refl
  told_number (Err q) = refl

  checked_number : (r : Result Checked Refusal) → number_told r ≡ number_told (over_checked d r)
  checked_number (Ok x) = refl
  checked_number (Err q) = refl

  checked_arpc : (r : Result Checked Refusal) → slice_after r (replicate 8 0) ≡ (after_check (over_checked d r) d).arpc
  checked_arpc (Ok x) = refl
  checked_arpc (Err q) = refl

  -- adding and forgetting
  module _ (pan : List ℕ) (q : ℕ) where
    add_over : adds d pan q ≡ over_told d (adds_in b pan q)
    add_over =
        adds_over t pan q k.ac k.smi k.smc k.packed no_key no_key no_key false ∙ ap (over_told d) (sym (lent_so _ _ _ (table_so b size) refl))

    forget_over : forgets d pan q ≡ over_told d (forgets_in b pan q)
    forget_over =
        forgets_over t pan q k.ac k.smi k.smc k.packed no_key no_key no_key false ∙ ap (over_told d) (sym (lent_so _ _ _ (table_so b size) refl))

    add_ready : Ready k (host_table (host_of k b) (Add pan q)) (desk_after (adds d pan q) d)
    add_ready =
        subst⁻¹ (λ (r : Result Desk Refusal). Ready k (table_after (adds_in b pan q) b) (desk_after r d)) add_over
        (ready_told (adds_in b pan q) (subst (λ (r : Result Desk Refusal). Turn (desk_after r d).places) add_over (turn_adds t pan q k.ac k.smi k.smc k.packed many sized)))

    forget_ready : Ready k (host_table (host_of k b) (Forget pan q)) (desk_after (forgets d pan q) d)
    forget_ready =
        subst⁻¹ (λ (r : Result Desk Refusal). Ready k (table_after (forgets_in b pan q) b) (desk_after r d)) forget_over
        (ready_told (forgets_in b pan q) (subst (λ (r : Result Desk Refusal). Turn (desk_after r d).places) forget_over (turn_forgets t pan q k.ac k.smi k.smc k.packed many sized)))

    -- checking
    module _ (m arqc csu : List ℕ) (keys : Keys k) where
      abbrev checked : Result Checked Refusal
      checked = host_checks (host_of k b) pan q m arqc csu

      check_fit : check_fits b k.ac (digits_of k) (replicate 8 0) ≡ true
      check_fit = check_whole b k.ac (digits_of k) (replicate 8 0) size (eq-eqb _ _ keys.ac) (digits_fit k.packed) (length-replicate {A = ℕ} 8 0)

      check_over : checks d pan q m arqc csu ≡ over_checked d checked
      check_over =
          checks_over t pan q k.ac k.smi k.smc k.packed m arqc csu no_key no_key
          ∙ ap (λ (p : Bool). over_checked d (checks (lent_desk k.ac no_key no_key p b) pan q m arqc csu)) (sym (packed_is k.packed))
          ∙ ap (over_checked d) (sym (lent_so _ _ _ check_fit refl))

      check_ready : Octets m → Ready k (host_table (host_of k b) (Check pan q m arqc csu)) (after_check (checks d pan q m arqc csu) d).desk
      check_ready o =
          subst⁻¹ (λ (r : Result Checked Refusal). Ready k (table_checked checked b) (after_check r d).desk) check_over
          (ready_checked checked (subst (λ (r : Result Checked Refusal). Turn (after_check r d).desk.places) check_over (turn_checks t pan q k.ac k.smi k.smc k.packed m arqc csu many sized o)))

    -- wrapping
    module _ (i : ℕ) (g pin o : List ℕ) (place : ℕ) (keys : Keys k) where
      wrap_fit : wrap_fits b k.smi k.smc (digits_of k) ≡ true
      wrap_fit = wrap_whole b k.smi k.smc (digits_of k) size (eq-eqb _ _ keys.smi) (eq-eqb _ _ keys.smc) (digits_fit k.packed)

      wrap_same : wraps_in b k.smi k.smc (digits_of k) pan q i g pin o place ≡ wraps d pan q i g pin o place
      unfolding wraps_in
      wrap_same =
          ap₂ (λ (x p : Bool). cond x (wraps (lent_desk no_key k.smi k.smc p b) pan q i g pin o place) (record { code = 1; buffer = o })) wrap_fit (packed_is k.packed)
          ∙ sym (wraps_over t pan q k.ac k.smi k.smc k.packed i g pin o place no_key)

  same_answers : Keys k → (c : DeskCall) → host_answer (host_of k b) c ≡ our_answer d c
  same_answers keys (Add pan q) = same_answer (told_number (adds_in b pan q) ∙ sym (ap (number_told {T = Desk}) (add_over pan q))) refl
  same_answers keys (Forget pan q) = same_answer (told_number (forgets_in b pan q) ∙ sym (ap (number_told {T = Desk}) (forget_over pan q))) refl
  same_answers keys (Check pan q m arqc csu) =
      let r = host_checks (host_of k b) pan q m arqc csu in
      let e = check_over pan q m arqc csu keys in
      same_answer (checked_number r ∙ sym (ap (number_told {T = Checked}) e)) (checked_arpc r ∙ sym (ap (λ (x : Result Checked Refusal). (after_check x d).arpc) e))
  same_answers keys (Wrap pan q i g pin o place) =
      let e = wrap_same pan q i g pin o place keys in
      same_answer (ap (λ (w : Written). w.code) e) (ap (λ (w : Written). w.buffer) e)

  next_ready : Keys k → (c : DeskCall) → Octet c → Ready k (host_table (host_of k b) c) (our_next d c)
  next_ready keys (Add pan q) o = add_ready pan q
  next_ready keys (Forget pan q) o = forget_ready pan q
  next_ready keys (Check pan q m arqc csu) o = check_ready pan q m arqc csu keys (o.counter pan q m arqc csu refl)
  next_ready keys (Wrap pan q i g pin x place) o = record { size = size; sized = sized; desk = refl }

-- zeros hold no card
module _ (n : ℕ) where
  zero_held : (p : ℕ) → (entry_at (zeros n) p).held ≡ false
  unfolding entry_at
  zero_held p = ap (λ (x : ℕ). not (eqb x 0)) (zeros_at n p)

  zero_sized : (p : ℕ) → p + 25 ≤ n → Sized (entry_at (zeros n) p)
  unfolding entry_at
  zero_sized p fit =
      record {
        digits = length-take-le 19 (drop (p + 2) (zeros n)) (simp (length-drop, length-replicate) (omega arith));
        last =
            be_lt (get_or (zeros n) (p + 23) 0 ∷ get_or (zeros n) (p + 24) 0 ∷ [])
            (two_octets (get_or (zeros n) (p + 23) 0) (get_or (zeros n) (p + 24) 0) (below_zeros 256 n (omega arith) (p + 23)) (below_zeros 256 n (omega arith) (p + 24)));
      }

  zeros_sized : (m p : ℕ) → p + 25 * m ≤ n → AllSized (entries_from m p (zeros n))
  unfolding entries_from
  zeros_sized zero p fit i = empty_sized
  zeros_sized (suc m) p fit zero = zero_sized p (omega arith)
  zeros_sized (suc m) p fit (suc i) = zeros_sized m (p + 25) (omega arith) i

  zeros_read : (c : CardId) (m p : ℕ) → readings c (entries_from m p (zeros n)) ≡ []
  unfolding entries_from readings names
  zeros_read c zero p = refl
  zeros_read c (suc m) p =
      ap (λ (x : Bool). cond (x && same_id c (entry_at (zeros n) p).id) (counter_of (entry_at (zeros n) p) ∷ readings c (entries_from m (p + 25) (zeros n))) (readings c (entries_from m (p + 25) (zeros n))))
      (zero_held p)
      ∙ zeros_read c m (p + 25)

  zeros_count : (m p : ℕ) → held_count (entries_from m p (zeros n)) ≡ 0
  unfolding entries_from held_count
  zeros_count zero p = refl
  zeros_count (suc m) p = ap₂ (λ (x : Bool) (y : ℕ). cond x 1 0 + y) (zero_held p) (zeros_count m (p + 25))

zeros_kept : Kept (table_in (zeros 1600)) []
unfolding holds
zeros_kept = record { size = length_entries 64 0 (zeros 1600); count = zeros_count 1600 64 0; reads = λ pan q. zeros_read 1600 (id_of pan q) 64 0 }

-- after every run: the host's bytes are a table that is the book
record After (k : Issuer) (b : List Holding) (h : Host) : Type 0 where
  own : h ≡ host_of k h.table
  size : length h.table ≡ 1600
  sized : AllSized (table_in h.table)
  table : Kept (table_in h.table) b

module _ (k : Issuer) (keys : Keys k) where
  step : (cs : List DeskCall) (c : DeskCall) → Octet c → (b : List ℕ) → length b ≡ 1600 → AllSized (table_in b) → Kept (table_in b) (book k cs)
      → After k (book k (c ∷ cs)) (host_of k (host_table (host_of k b) c))
  unfolding book
  step cs c o b n z w =
      let r = next_ready k b n z keys c o in
      let s = step_of k (table_in b) (book k cs) (each_once k cs) w c in
      record {
        own = refl;
        size = r.size;
        sized = r.sized;
        table = subst (λ (x : Desk). Kept x.places (book k (c ∷ cs))) r.desk s.after.table;
      }

  run : (cs : List DeskCall) → ((i : ℕ) → Octet (get_or cs i (Forget [] 0))) → After k (book k cs) (reached host k cs)
  unfolding book
  run [] o = record { own = refl; size = length-replicate {A = ℕ} 1600 0; sized = zeros_sized 1600 64 0 (omega arith); table = zeros_kept }
  run (c ∷ cs) o =
      let h = run cs (λ i. o (suc i)) in
      subst⁻¹ (λ (x : Host). After k (book k (c ∷ cs)) (record { issuer = x.issuer; table = host_table x c })) h.own
      (step cs c (o zero) (reached host k cs).table h.size h.sized h.table)

  -- what the book says is what our desk answers
  module _ (cs : List DeskCall) (c : DeskCall) where
    abbrev said : DeskAnswer
    said = record { number = due_after k cs c; bytes = cond (eqb (due_after k cs c) 0) (gives k c) (leaves c) }

    ours : answered our_desk k cs c ≡ said
    ours = same_answer e (go (eqb (due_after k cs c) 0) refl)
      where
        e : (answered our_desk k cs c).number ≡ due_after k cs c
        e = ours_as_demanded.numbers k cs c

        go : (x : Bool) → eqb (due_after k cs c) 0 ≡ x → (answered our_desk k cs c).bytes ≡ cond x (gives k c) (leaves c)
        go true w = ours_as_demanded.given k cs c (e ∙ eqb-true _ _ w)
        go false w = ours_as_demanded.refused k cs c (λ z. eqb-false _ _ w (sym e ∙ z))

    hosts : ((i : ℕ) → Octet (get_or cs i (Forget [] 0))) → answered host k cs c ≡ said
    hosts o =
        let h = run cs o in
        let b : List ℕ = (reached host k cs).table in
        let s = step_of k (table_in b) (book k cs) (each_once k cs) h.table c in
        ap (λ (x : Host). host_answer x c) h.own ∙ same_answers k b h.size h.sized keys c ∙ same_answer s.number s.bytes

pub lent_is_desk : LentIsDesk
lent_is_desk k cs c keys o = hosts k keys cs c o ∙ sym (ours k keys cs c)
