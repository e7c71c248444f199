-- Wish 7's sentences, each of the book after any run, and so of every desk that is as demanded: a call is accepted where its number is 0. Assumes nothing.
use Rattle.std.specs.Prelude.{ℕ, ◌+◌, ◌<◌, ◌≤◌, ◌≡◌, ◌↔◌, Bool, true, false, not, ◌&&◌, ◌||◌, cond, List, [], ◌∷◌, ◌++◌, eqb, length, Option, None, Some}
use Rattle.octets.specs.Same.{same}
use Rattle.keys.specs.CardNumber.{card_fits}
use Rattle.table.specs.Table.{readings, held_count}
use Rattle.pin.specs.PinBlock.{pin_fits}
use Rattle.desk.specs.declared.Desk.{Desk}
use Rattle.answers.specs.Answers.{number_told}
use Rattle.desk.specs.Desk.{id_of, adds, forgets, desk_after}
use Rattle.desk.specs.Check.{checks, after_check}
use Rattle.desk.specs.Wrap.{wraps}
use Rattle.desks.specs.Run.{Issuer, DeskCall, Add, Forget, Check, Wrap, reached, our_desk}
use Rattle.desks.specs.Book.{Holding, holds, last_of, counter_of, arqc_for, is_command, script_for, book, due_after}

-- whether a call is an adding, a forgetting, a checking of a card
abbrev pub is_add : List ℕ → ℕ → DeskCall → Bool
is_add pan q (Add p s) = same pan p && eqb q s
is_add pan q (Forget p s) = false
is_add pan q (Check p s m arqc csu) = false
is_add pan q (Wrap p s i g pin b place) = false

abbrev pub is_forget : List ℕ → ℕ → DeskCall → Bool
is_forget pan q (Add p s) = false
is_forget pan q (Forget p s) = same pan p && eqb q s
is_forget pan q (Check p s m arqc csu) = false
is_forget pan q (Wrap p s i g pin b place) = false

abbrev pub is_check : List ℕ → ℕ → DeskCall → Bool
is_check pan q (Add p s) = false
is_check pan q (Forget p s) = false
is_check pan q (Check p s m arqc csu) = same pan p && eqb q s
is_check pan q (Wrap p s i g pin b place) = false

-- the counter in a call's data
abbrev pub its_counter : DeskCall → ℕ
its_counter (Add p s) = 0
its_counter (Forget p s) = 0
its_counter (Check p s m arqc csu) = counter_of m
its_counter (Wrap p s i g pin b place) = 0

abbrev pub accepted : Issuer → List DeskCall → DeskCall → Bool
accepted k cs c = eqb (due_after k cs c) 0

-- whether the last accepted adding or forgetting of a card was an adding
abbrev pub last_was_add : Issuer → List ℕ → ℕ → List DeskCall → Bool
last_was_add k pan q [] = false
last_was_add k pan q (c ∷ cs) =
    cond (accepted k cs c && (is_add pan q c || is_forget pan q c)) (is_add pan q c) (last_was_add k pan q cs)

-- the counter of the last accepted checking of a card since its last accepted adding or forgetting
abbrev pub last_checked : Issuer → List ℕ → ℕ → List DeskCall → Option ℕ
last_checked k pan q [] = None
last_checked k pan q (c ∷ cs) =
    cond (accepted k cs c && (is_add pan q c || is_forget pan q c)) None
    (cond (accepted k cs c && is_check pan q c) (Some (its_counter c)) (last_checked k pan q cs))

-- no accepted forgetting of a card in some calls that follow others
abbrev pub never_forgot : Issuer → List ℕ → ℕ → List DeskCall → List DeskCall → Bool
never_forgot k pan q [] cs = true
never_forgot k pan q (c ∷ between) cs = cond (accepted k (between ++ cs) c && is_forget pan q c) false (never_forgot k pan q between cs)

pub record Sentences : Type 0 where
  -- a card is held exactly when its last accepted adding or forgetting was an adding
  pub held_exactly : (k : Issuer) (pan : List ℕ) (q : ℕ) (cs : List DeskCall) → holds pan q (book k cs) ≡ last_was_add k pan q cs
  -- "adding is refused for room only when 64 cards are held": exactly then, none of them this one
  pub room_exactly : (k : Issuer) (pan : List ℕ) (q : ℕ) (cs : List DeskCall)
      → (due_after k cs (Add pan q) ≡ 21) ↔ ((card_fits pan q ≡ true) × (holds pan q (book k cs) ≡ false) × (length (book k cs) ≡ 64))
  -- "A forgotten card added again starts with no last counter"; "the last counter" is that of the last accepted checking
  pub last_exactly : (k : Issuer) (pan : List ℕ) (q : ℕ) (cs : List DeskCall) → last_of pan q (book k cs) ≡ last_checked k pan q cs
  -- accepted counters of a card strictly grow until it is forgotten
  pub counters_grow : (k : Issuer) (pan : List ℕ) (q : ℕ) (c e : DeskCall) (between cs : List DeskCall)
      → is_check pan q c ≡ true → is_check pan q e ≡ true → accepted k cs c ≡ true → never_forgot k pan q between (c ∷ cs) ≡ true
      → accepted k (between ++ (c ∷ cs)) e ≡ true → its_counter c < its_counter e
  -- "a refusal changes no entry"
  pub refusal_keeps : (k : Issuer) (cs : List DeskCall) (c : DeskCall) → accepted k cs c ≡ false → book k (c ∷ cs) ≡ book k cs

-- a checking is accepted exactly when its lengths and its card are right, the card is held, the ARQC is the one of the data and the counter in them, and that
-- counter is above the last accepted one, if any
abbrev pub is_long : List ℕ → List ℕ → List ℕ → Bool
is_long m arqc csu = eqb (length m) 65 && (eqb (length arqc) 8 && eqb (length csu) 4)

pub record Right (k : Issuer) (cs : List DeskCall) (pan : List ℕ) (q : ℕ) (m arqc csu : List ℕ) : Type 0 where
  pub long : is_long m arqc csu ≡ true
  pub fits : card_fits pan q ≡ true
  pub held : last_was_add k pan q cs ≡ true
  pub its_arqc : arqc_for k pan q m ≡ arqc
  pub above : (l : ℕ) → last_checked k pan q cs ≡ Some l → l < counter_of m

abbrev pub CheckExactly : Type 0
CheckExactly =
    (k : Issuer) (cs : List DeskCall) (pan : List ℕ) (q : ℕ) (m arqc csu : List ℕ) → (due_after k cs (Check pan q m arqc csu) ≡ 0) ↔ Right k cs pan q m arqc csu

-- when each number is given: all that is checked ahead of it passes, and its own check strikes
pub record Numbered (k : Issuer) (cs : List DeskCall) (pan : List ℕ) (q : ℕ) : Type 0 where
  pub add_2 : card_fits pan q ≡ false → due_after k cs (Add pan q) ≡ 2
  pub add_20 : card_fits pan q ≡ true → last_was_add k pan q cs ≡ true → due_after k cs (Add pan q) ≡ 20
  pub forget_2 : card_fits pan q ≡ false → due_after k cs (Forget pan q) ≡ 2
  pub forget_19 : card_fits pan q ≡ true → last_was_add k pan q cs ≡ false → due_after k cs (Forget pan q) ≡ 19
  pub check_1 : (m arqc csu : List ℕ) → is_long m arqc csu ≡ false → due_after k cs (Check pan q m arqc csu) ≡ 1
  pub check_2 : (m arqc csu : List ℕ) → is_long m arqc csu ≡ true → card_fits pan q ≡ false → due_after k cs (Check pan q m arqc csu) ≡ 2
  pub check_19 : (m arqc csu : List ℕ) → is_long m arqc csu ≡ true → card_fits pan q ≡ true → last_was_add k pan q cs ≡ false
      → due_after k cs (Check pan q m arqc csu) ≡ 19
  pub check_22 : (m arqc csu : List ℕ) → is_long m arqc csu ≡ true → card_fits pan q ≡ true → last_was_add k pan q cs ≡ true → (arqc_for k pan q m ≡ arqc → ⊥)
      → due_after k cs (Check pan q m arqc csu) ≡ 22
  pub check_23 : (m arqc csu : List ℕ) (l : ℕ) → is_long m arqc csu ≡ true → card_fits pan q ≡ true → last_was_add k pan q cs ≡ true → arqc_for k pan q m ≡ arqc
      → last_checked k pan q cs ≡ Some l → counter_of m ≤ l → due_after k cs (Check pan q m arqc csu) ≡ 23
  pub wrap_1 : (i : ℕ) (g pin b : List ℕ) (place : ℕ) → (is_command i && eqb (length g) 8) ≡ false → due_after k cs (Wrap pan q i g pin b place) ≡ 1
  pub wrap_2 : (i : ℕ) (g pin b : List ℕ) (place : ℕ) → (is_command i && eqb (length g) 8) ≡ true → card_fits pan q ≡ false
      → due_after k cs (Wrap pan q i g pin b place) ≡ 2
  pub wrap_19 : (i : ℕ) (g pin b : List ℕ) (place : ℕ) → (is_command i && eqb (length g) 8) ≡ true → card_fits pan q ≡ true → last_was_add k pan q cs ≡ false
      → due_after k cs (Wrap pan q i g pin b place) ≡ 19
  pub wrap_12 : (g pin b : List ℕ) (place : ℕ) → (is_command 0x24 && eqb (length g) 8) ≡ true → card_fits pan q ≡ true → last_was_add k pan q cs ≡ true
      → pin_fits 0 (length pin) pin ≡ false → due_after k cs (Wrap pan q 0x24 g pin b place) ≡ 12
  pub wrap_3 : (i : ℕ) (g pin b : List ℕ) (place : ℕ) → (is_command i && eqb (length g) 8) ≡ true → card_fits pan q ≡ true → last_was_add k pan q cs ≡ true
      → (eqb i 0x24 && not (pin_fits 0 (length pin) pin)) ≡ false → length b < place + length (script_for k pan q i g pin)
      → due_after k cs (Wrap pan q i g pin b place) ≡ 3

abbrev pub EachNumbered : Type 0
EachNumbered = (k : Issuer) (cs : List DeskCall) (pan : List ℕ) (q : ℕ) → Numbered k cs pan q

-- "a refusal changes no entry", of every desk, whatever its table holds, and no byte of a lent buffer
pub record Leaves (d : Desk) : Type 0 where
  pub adding : (pan : List ℕ) (q : ℕ) → (number_told (adds d pan q) ≡ 0 → ⊥) → desk_after (adds d pan q) d ≡ d
  pub forgetting : (pan : List ℕ) (q : ℕ) → (number_told (forgets d pan q) ≡ 0 → ⊥) → desk_after (forgets d pan q) d ≡ d
  pub checking : (pan : List ℕ) (q : ℕ) (m arqc csu : List ℕ) → (number_told (checks d pan q m arqc csu) ≡ 0 → ⊥) → (after_check (checks d pan q m arqc csu) d).desk ≡ d
  pub wrapping : (pan : List ℕ) (q i : ℕ) (g pin b : List ℕ) (place : ℕ) → ((wraps d pan q i g pin b place).code ≡ 0 → ⊥) → (wraps d pan q i g pin b place).buffer ≡ b

abbrev pub RefusalLeaves : Type 0
RefusalLeaves = (d : Desk) → Leaves d

-- no card stands twice in the book, so that its length is the number of cards held
unfoldable pub once : List Holding → Bool
once [] = true
once (h ∷ b) = not (holds h.pan h.sequence b) && once b

abbrev pub EachOnce : Type 0
EachOnce = (k : Issuer) (cs : List DeskCall) → once (book k cs) ≡ true

-- what our table holds is the book: of each card nothing, or its last counter, if any; and as many places hold a card as the book has cards
abbrev pub read_as : List ℕ → ℕ → List Holding → List (Option ℕ)
read_as pan q b = cond (holds pan q b) (last_of pan q b ∷ []) []

pub record TableIsBook : Type 0 where
  pub cards : (k : Issuer) (cs : List DeskCall) (pan : List ℕ) (q : ℕ) → readings (id_of pan q) (reached our_desk k cs).places ≡ read_as pan q (book k cs)
  pub as_many : (k : Issuer) (cs : List DeskCall) → held_count (reached our_desk k cs).places ≡ length (book k cs)
