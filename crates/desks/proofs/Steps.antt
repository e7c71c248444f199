-- Each call of our desk, at a table that is a book, is answered by the book, and the table after it is the book after it. Assumes nothing.
use Prim.Native.Nat.{ℕ, ◌+◌}
use native.Mathlib.Omega.{arith}
use mathlib.Core.Path.{◌≡◌, refl, sym, ap, ap₂, subst⁻¹, ◌∙◌}
use mathlib.Core.Bool.{Bool, true, false, not, ◌&&◌, ◌||◌, cond}
use mathlib.Core.List.{List, [], ◌∷◌, ◌++◌}
use lib.Dec.{eqb, leb}
use lib.ListN.{length}
use borrow.Author.Tests.{eqb-true}
use Rattle.std.specs.Prelude.{Result, Ok, Err}
use Rattle.answers.specs.declared.Refusal.{Refusal}
use Rattle.answers.specs.declared.Refusal.TheVariants.{Input, CardNumber, NoRoom, PinDigits, UnknownCard, AlreadyHeld, TableFull, ArqcDiffers, CounterNotAbove}
use Rattle.answers.specs.Refusals.{number as number_of}
use Rattle.answers.specs.Answers.{number_told}
use Rattle.answers.proofs.Laws.{not_zero}
use Rattle.octets.specs.Same.{same}
use Rattle.octets.specs.Numbers.{be}
use Rattle.octets.specs.Laid.{laid}
use Rattle.octets.proofs.Parts.{elements_part}
use Rattle.gost.specs.Gost.{subkeys}
use Rattle.derive.specs.Derivation.{derived, card_label}
use Rattle.keys.specs.CardNumber.{card_fits}
use Rattle.pin.specs.PinBlock.{pin_fits}
use Rattle.cryptogram.specs.declared.Kind.TheVariants.{Arqc}
use Rattle.cryptogram.specs.Cryptogram.{cryptogram_of, arpc_of}
use Rattle.shapes.specs.declared.command.Command.{Command}
use Rattle.shapes.specs.declared.command.Command.TheVariants.{SetPin, SetMark, ClearMark}
use Rattle.shapes.specs.Command.{header_of, tag_for}
use Rattle.shapes.proofs.CommandLaws.{headers, tags}
use Rattle.message.specs.Code.{message}
use Rattle.message.specs.Answers.{Written}
use Rattle.table.specs.declared.CardId.{CardId}
use Rattle.table.specs.declared.Entry.{Entry}
use Rattle.table.specs.Table.{held}
use Rattle.table.specs.Calls.{placed, each, cleared_entry, kept_entry, keeping}
use Rattle.table.proofs.Touch.{adding_as, forgetting_as, keeping_as}
use Rattle.desk.specs.declared.Desk.{Desk}
use Rattle.desk.specs.declared.Checked.{Checked}
use Rattle.desk.specs.Desk.{id_of, master_key, with_places, told_by, adds, forgets, desk_after}
use Rattle.desk.specs.Check.{counter_in, session_of, above_last, given_by, checks_right, checks_known, checks, after_check}
use Rattle.desk.specs.Wrap.{ordered, script_of, pin_good, carried, script, unwritten, writes as lays, wraps_command, wraps_order, wraps_listed, wraps}
use Rattle.desks.specs.Run.{Issuer, DeskCall, Add, Forget, Check, Wrap, DeskAnswer, empty_desk, our_answer, our_next}
use Rattle.desks.specs.Book.{Holding, holds, last_of, master_for, counter_of, session_for, arqc_for, is_above, is_command, script_for, Strike, strikes, first_of, due, gives, leaves, writes}
use Rattle.desks.specs.Sentences.{once}
use Rattle.desks.proofs.Laws.{add_tests, forget_tests, check_tests}
use Rattle.desks.proofs.Kept.{Kept, has_room, is_held, is_above_lem, added, struck, raised}

-- the desk of an issuer with a table
abbrev pub desk_of : Issuer → List Entry → Desk
desk_of k t = with_places (empty_desk k) t

-- a desk whose table is a book
pub record Keeps (k : Issuer) (d : Desk) (b : List Holding) : Type 0 where
  pub own : d ≡ desk_of k d.places
  pub table : Kept d.places b

-- a call that is answered by the book, with the number n, and the desk after it
pub record Step (k : Issuer) (b : List Holding) (c : DeskCall) (a : DeskAnswer) (d : Desk) (n : ℕ) : Type 0 where
  pub number : a.number ≡ n
  pub bytes : a.bytes ≡ cond (eqb n 0) (gives k c) (leaves c)
  pub after : Keeps k d (cond (eqb n 0) (writes c b) b)

counter_same : (m : List ℕ) → length m ≡ 65 → counter_in m ≡ counter_of m
unfolding counter_in counter_of
counter_same m e = sym (ap be (elements_part m 31 2 (omega arith)))

module _ (k : Issuer) (t : List Entry) (b : List Holding) (o : once b ≡ true) (h : Kept t b) where
  abbrev d : Desk
  d = desk_of k t

  -- the two ways out
  accepts : (x : DeskCall) (s : List ℕ) → s ≡ gives k x → (u : List Entry) → Kept u (writes x b) → Step k b x (record { number = 0; bytes = s }) (desk_of k u) 0
  accepts x s e u w = record { number = refl; bytes = e; after = record { own = refl; table = w } }

  refuses : (x : DeskCall) (r : Refusal) → Step k b x (record { number = number_of r; bytes = leaves x }) d (number_of r)
  refuses x r =
      record {
        number = refl;
        bytes = sym (ap (λ (y : Bool). cond y (gives k x) (leaves x)) (not_zero r));
        after = subst⁻¹ (λ (y : Bool). Keeps k d (cond y (writes x b) b)) (not_zero r) (record { own = refl; table = h });
      }

  module _ (pan : List ℕ) (q : ℕ) where
    abbrev c : CardId
    c = id_of pan q

    abbrev ToldStep : DeskCall → Result Desk Refusal → ℕ → Type 0
    ToldStep x r n = Step k b x (record { number = number_told r; bytes = [] }) (desk_after r d) n

    step_add : ToldStep (Add pan q) (adds d pan q) (due k b (Add pan q))
    unfolding adds due gives
    step_add =
        subst⁻¹ (λ (r : Result (List Entry) Refusal). ToldStep (Add pan q) (cond (card_fits pan q) (told_by d r) (Err CardNumber)) (due k b (Add pan q)))
        (adding_as c t (holds pan q b) (not (leb 64 (length b))) (is_held t b h pan q) (has_room t b h))
        (go (card_fits pan q) (holds pan q b) (leb 64 (length b)) (added t b h pan q k))
      where
        go : (f x r : Bool) → (first_of (add_tests f x r) ≡ 0 → Kept (placed c t) (writes (Add pan q) b))
            → ToldStep (Add pan q) (cond f (told_by d (cond x (Err AlreadyHeld) (cond (not r) (Ok (placed c t)) (Err TableFull)))) (Err CardNumber)) (first_of (add_tests f x r))
        go true true r w = refuses (Add pan q) AlreadyHeld
        go true false true w = refuses (Add pan q) TableFull
        go true false false w = accepts (Add pan q) [] refl (placed c t) (w refl)
        go false x r w = refuses (Add pan q) CardNumber

    step_forget : ToldStep (Forget pan q) (forgets d pan q) (due k b (Forget pan q))
    unfolding forgets due gives
    step_forget =
        subst⁻¹ (λ (r : Result (List Entry) Refusal). ToldStep (Forget pan q) (cond (card_fits pan q) (told_by d r) (Err CardNumber)) (due k b (Forget pan q)))
        (forgetting_as c t (holds pan q b) (is_held t b h pan q)) (go (card_fits pan q) (holds pan q b) (struck t b h pan q k o))
      where
        go : (f x : Bool) → (first_of (forget_tests f x) ≡ 0 → Kept (each (cleared_entry c) t) (writes (Forget pan q) b))
            → ToldStep (Forget pan q) (cond f (told_by d (cond x (Ok (each (cleared_entry c) t)) (Err UnknownCard))) (Err CardNumber)) (first_of (forget_tests f x))
        go true true w = accepts (Forget pan q) [] refl (each (cleared_entry c) t) (w refl)
        go true false w = refuses (Forget pan q) UnknownCard
        go false x w = refuses (Forget pan q) CardNumber

    -- checking: the counter and the session key are the book's
    module _ (m arqc csu : List ℕ) where
      abbrev call : DeskCall
      call = Check pan q m arqc csu

      abbrev CheckStep : Result Checked Refusal → ℕ → Type 0
      CheckStep r n = Step k b call (record { number = number_told r; bytes = (after_check r d).arpc }) (after_check r d).desk n

      abbrev checked_by : Bool → Bool → Bool → Bool → ℕ → List ℕ → Result Checked Refusal
      checked_by f x s a n ks =
          cond f
          (cond x
          (cond s (cond a (given_by d (arpc_of ks arqc csu) (keeping c n t)) (Err CounterNotAbove)) (Err ArqcDiffers))
          (Err UnknownCard))
          (Err CardNumber)

      abbrev of_table : ℕ → Result Checked Refusal
      of_table n =
          let ks : List ℕ = subkeys 8 (session_of d pan q n) in
          checked_by (card_fits pan q) (held c t) (same (cryptogram_of ks Arqc n m) arqc) (above_last t c n) n ks

      abbrev right : Bool
      right = same (arqc_for k pan q m) arqc

      abbrev above : Bool
      above = is_above (counter_of m) (last_of pan q b)

      abbrev of_book : Bool → Bool → Bool → Bool → Result Checked Refusal
      of_book f x s a = checked_by f x s a (counter_of m) (session_for k pan q m)

      same_check : length m ≡ 65 → of_table (counter_in m) ≡ of_book (card_fits pan q) (holds pan q b) right above
      unfolding session_of session_for master_key master_for arqc_for
      same_check e = ap of_table (counter_same m e) ∙ ap₂ (λ (x a : Bool). of_book (card_fits pan q) x right a) (is_held t b h pan q) (is_above_lem t b h pan q (counter_of m))

      abbrev Raised : Type 0
      Raised = Kept (each (kept_entry c (counter_of m)) t) (writes call b)

      book_check : (f x s a : Bool) → holds pan q b ≡ x → (first_of (check_tests true f x s a) ≡ 0 → Raised) → CheckStep (of_book f x s a) (first_of (check_tests true f x s a))
      unfolding gives
      book_check true true true true e w =
          subst⁻¹ (λ (r : Result (List Entry) Refusal). CheckStep (given_by d (arpc_of (session_for k pan q m) arqc csu) r) 0)
          (keeping_as c t (counter_of m) true (is_held t b h pan q ∙ e)) (accepts call (arpc_of (session_for k pan q m) arqc csu) refl (each (kept_entry c (counter_of m)) t) (w refl))
      book_check true true true false e w = refuses call CounterNotAbove
      book_check true true false a e w = refuses call ArqcDiffers
      book_check true false s a e w = refuses call UnknownCard
      book_check false x s a e w = refuses call CardNumber

      step_check : CheckStep (checks d pan q m arqc csu) (due k b call)
      unfolding checks checks_known checks_right due
      step_check = go (eqb (length m) 65) (eqb (length arqc) 8 && eqb (length csu) 4) refl (raised t b h pan q k m arqc csu)
        where
          go : (l y : Bool) → eqb (length m) 65 ≡ l → (first_of (check_tests (l && y) (card_fits pan q) (holds pan q b) right above) ≡ 0 → Raised)
              → CheckStep (cond (l && y) (of_table (counter_in m)) (Err Input)) (first_of (check_tests (l && y) (card_fits pan q) (holds pan q b) right above))
          go true true e w =
              subst⁻¹ (λ (r : Result Checked Refusal). CheckStep r (first_of (check_tests true (card_fits pan q) (holds pan q b) right above))) (same_check (eqb-true _ _ e))
              (book_check (card_fits pan q) (holds pan q b) right above refl w)
          go true false e w = refuses call Input
          go false y e w = refuses call Input

    -- wrapping: header and message are the book's
    module _ (i : ℕ) (g pin lent : List ℕ) (place : ℕ) where
      abbrev order : DeskCall
      order = Wrap pan q i g pin lent place

      abbrev WrapStep : Written → ℕ → Type 0
      WrapStep r n = Step k b order (record { number = r.code; bytes = r.buffer }) d n

      abbrev wrap_tests : Bool → Bool → Bool → Bool → Bool → List Strike
      wrap_tests l f x p r =
          strikes (not l) Input ∷ strikes (not f) CardNumber ∷ strikes (not x) UnknownCard ∷ strikes p PinDigits ∷ strikes (not r) NoRoom ∷ []

      abbrev wrapped_by : Bool → Bool → Bool → Bool → Bool → List ℕ → Written
      wrapped_by l f x p r s =
          cond l
          (cond f
          (cond x (cond p (cond r (record { code = 0; buffer = laid lent place s }) (unwritten lent NoRoom)) (unwritten lent PinDigits)) (unwritten lent UnknownCard))
          (unwritten lent CardNumber))
          (unwritten lent Input)

      abbrev sent : List ℕ
      sent = script_for k pan q i g pin

      abbrev fits : List ℕ → Bool
      fits s = leb (place + length s) (length lent)

      book_wrap : (l f x p r : Bool) → WrapStep (wrapped_by l f x p r sent) (first_of (wrap_tests l f x (not p) r))
      unfolding gives
      book_wrap true true true true true = accepts order (laid lent place sent) refl t h
      book_wrap true true true true false = refuses order NoRoom
      book_wrap true true true false r = refuses order PinDigits
      book_wrap true true false p r = refuses order UnknownCard
      book_wrap true false x p r = refuses order CardNumber
      book_wrap false f x p r = refuses order Input

      -- a command under the card's keys
      abbrev key : List ℕ → List ℕ
      key master = derived (master_for k master pan q) card_label g

      abbrev coded : List ℕ → ℕ → List ℕ → List ℕ
      coded header tag x = header ++ message (key k.smi) header tag x

      abbrev made : Command → List ℕ
      made x = coded (header_of x) (tag_for x) (carried x (key k.smc) pin)

      wrap_command : (x : Command) → made x ≡ sent
          → WrapStep (wraps_listed d pan q (Ok x) g pin lent place) (first_of (wrap_tests (eqb (length g) 8) (card_fits pan q) (holds pan q b) (not (pin_good x pin)) (fits sent)))
      unfolding wraps_order wraps_command lays script script_of master_key master_for
      wrap_command x e =
          let by : Bool → List ℕ → Written = λ y s. wrapped_by (eqb (length g) 8) (card_fits pan q) y (pin_good x pin) (fits s) s in
          subst⁻¹ (λ (r : Written). WrapStep r (first_of (wrap_tests (eqb (length g) 8) (card_fits pan q) (holds pan q b) (not (pin_good x pin)) (fits sent))))
          (ap₂ by (is_held t b h pan q) e) (book_wrap (eqb (length g) 8) (card_fits pan q) (holds pan q b) (pin_good x pin) (fits sent))

      abbrev chosen : Bool → List ℕ
      chosen y = cond y (coded (0x84 ∷ 0x24 ∷ 0x00 ∷ 0x02 ∷ []) 0x87 (carried SetPin (key k.smc) pin)) (coded (0x84 ∷ i ∷ 0x00 ∷ 0x00 ∷ []) 0x81 [])

      sends_pin : eqb i 0x24 ≡ true → made SetPin ≡ sent
      unfolding carried script_for
      sends_pin e = ap₂ (λ (y : List ℕ) (z : ℕ). coded y z (carried SetPin (key k.smc) pin)) headers.0 tags.0 ∙ sym (ap chosen e)

      sends_mark : (n : ℕ) → eqb i 0x24 ≡ false → eqb i n ≡ true → coded (0x84 ∷ n ∷ 0x00 ∷ 0x00 ∷ []) 0x81 [] ≡ sent
      unfolding carried script_for
      sends_mark n e w = ap (λ (y : ℕ). coded (0x84 ∷ y ∷ 0x00 ∷ 0x00 ∷ []) 0x81 []) (sym (eqb-true i n w)) ∙ sym (ap chosen e)

      step_wrap : WrapStep (wraps d pan q i g pin lent place) (due k b order)
      unfolding wraps ordered pin_good carried due is_command
      step_wrap = go (eqb i 0x24) (eqb i 0x1e) (eqb i 0x18) refl refl refl
        where
          go : (x y z : Bool) → eqb i 0x24 ≡ x → eqb i 0x1e ≡ y → eqb i 0x18 ≡ z
              → WrapStep (wraps_listed d pan q (cond x (Ok SetPin) (cond y (Ok SetMark) (cond z (Ok ClearMark) (Err Input)))) g pin lent place)
              (first_of (wrap_tests ((x || (y || z)) && eqb (length g) 8) (card_fits pan q) (holds pan q b) (x && not (pin_fits 0 (length pin) pin)) (fits sent)))
          go true y z ex ey ez = wrap_command SetPin (sends_pin ex)
          go false true z ex ey ez = wrap_command SetMark (ap₂ (λ (u : List ℕ) (v : ℕ). coded u v []) headers.1 tags.1 ∙ sends_mark 0x1e ex ey)
          go false false true ex ey ez = wrap_command ClearMark (ap₂ (λ (u : List ℕ) (v : ℕ). coded u v []) headers.2 tags.2 ∙ sends_mark 0x18 ex ez)
          go false false false ex ey ez = refuses order Input

  pub step_of : (x : DeskCall) → Step k b x (our_answer d x) (our_next d x) (due k b x)
  step_of (Add pan q) = step_add pan q
  step_of (Forget pan q) = step_forget pan q
  step_of (Check pan q m arqc csu) = step_check pan q m arqc csu
  step_of (Wrap pan q i g pin lent place) = step_wrap pan q i g pin lent place
