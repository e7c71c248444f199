-- Messages of up to 135 bytes read as before, and data of up to 127 bytes are written as before. Assumes nothing.
use mathlib.Core.Path.{◌≡◌, refl, sym, ap, ap₂, ◌∙◌}
use mathlib.Core.Bool.{Bool, true, false, not, ◌&&◌, cond, and-false, true≢false}
use mathlib.Core.List.{List, ◌∷◌, ◌++◌}
use Prim.Native.Nat.{ℕ, ◌+◌, ◌≤◌, ◌<◌}
use native.Mathlib.Nat.{min-le_left}
use native.Mathlib.Omega.{arith}
use borrow.Author.Tests.{le-leb, lt-leb}
use lib.Dec.{leb, eqb}
use lib.ListN.{length, get_or, take, drop, length-take}
use Rattle.answers.specs.declared.Refusal.TheVariants.{Input, NoRoom, ShapeWrong, PhaseWrong}
use Rattle.answers.specs.Refusals.{number}
use Rattle.octets.specs.Same.{same}
use Rattle.std.specs.Prelude.{Ok, Err}
use Rattle.shapes.specs.declared.Found.{Found}
use Rattle.shapes.specs.Rules.{Rules, present}
use Rattle.shapes.specs.Length.{largest, largest_short}
use Rattle.shapes.specs.Shape.{tag_fits, code_head, body, body_under, place_of, place_of_under, body_size, body_size_under, size_of_under, tag_of, length_of, length_of_under, data_of, data_of_under, body_of, body_of_under, code_in, code_in_under, shape, shape_under}
use Rattle.shapes.specs.Answers.{found, found_in, found_in_under, shaped, shaped_under}
use Rattle.shapes.proofs.LengthLaws.{Form, short, long, form, Says, one, two, none, says, says_short, says_long, field_short, place_short, place_long}
use Rattle.shapes.proofs.ShapeLaws.{shape_good}
use Rattle.message.specs.Code.{code_for, message, message_under, given, code_fits, code_fits_under}
use Rattle.octets.specs.Laid.{laid}
use Rattle.message.specs.Answers.{opened, opened_under, wrap_number, wrap_number_under, wrapped_under, Written}
use Rattle.transaction.specs.Transaction.{is_open}
use Rattle.card.specs.declared.Card.{Card}
use Rattle.card.specs.declared.Reply.{Reply}
use Rattle.card.specs.Record.{sound}
use Rattle.card.specs.Keys.{smi_key}
use Rattle.card.specs.Calls.{Call, Open, IssuerAnswer, Script, Close, Withdraw, Counters, Verdict, refuse, accept, Message, read, read_under, judged_script, judged_under, only, gives, accepted_script, accepted_under, refused_script, due_by, after_by_under, due_under, after_under, reply, plain, step, step_under, CheckPin}
use Rattle.before.specs.Statement.{size_before, WritesAsBefore}
use Rattle.before.specs.Base.{short_scripts}

-- the body of data that one byte counts
body_short : (t : ℕ) (d : List ℕ) → length d ≤ 127 → body t d ≡ body_under short_scripts t d
unfolding body_under largest_short
body_short t d h = ap (λ (f : List ℕ). t ∷ f ++ d ++ code_head) (field_short (length d) h)

message_short : (key header : List ℕ) (tag : ℕ) (d : List ℕ) → length d ≤ 127 → message key header tag d ≡ message_under short_scripts key header tag d
unfolding message_under
message_short key header tag d h = ap (λ (b : List ℕ). b ++ code_for key header b) (body_short tag d h)

place_same : (n : ℕ) → n ≤ 127 → place_of n ≡ place_of_under short_scripts n
unfolding place_of_under largest_short
place_same n h = place_short n h

number_short : (key header : List ℕ) (tag n size place : ℕ) → n ≤ 127 → wrap_number key header tag n size place ≡ wrap_number_under short_scripts key header tag n size place
unfolding wrap_number_under size_of_under body_size_under largest
number_short key header tag n size place h =
    ap₂ (λ (x : Bool) (p : ℕ). cond (given key header && (tag_fits tag && x)) (cond (leb (place + (p + n + 2 + 4)) size) 0 (number NoRoom)) (number Input))
    (le-leb n 255 (omega arith) ∙ sym (le-leb n 127 h))
    (place_same n h)

pub writes_as_before : WritesAsBefore
unfolding wrapped_under
writes_as_before =
    record {
      of_wrapping =
          λ key header tag d b place h.
          ap₂ (λ (r : ℕ) (m : List ℕ). cond {A = Written} (eqb r 0) (record { code = 0; buffer = laid b place m }) (record { code = r; buffer = b }))
          (number_short key header tag (length d) (length b) place h)
          (message_short key header tag d h);
    }

-- a message whose length byte is at most 127: its parts are as before, whatever its size
module _ (m : List ℕ) (h : get_or m 1 0 ≤ 127) where
  same_length : length_of m ≡ length_of_under short_scripts m
  unfolding length_of_under largest_short
  same_length = says_short (get_or m 1 0) (get_or m 2 0) h

  same_place : place_of (length_of m) ≡ place_of_under short_scripts (length_of_under short_scripts m)
  unfolding length_of_under
  same_place = ap place_of same_length ∙ place_same (get_or m 1 0) h

  same_data : data_of m ≡ data_of_under short_scripts m
  unfolding data_of_under
  same_data = ap₂ (λ (n p : ℕ). take n (drop p m)) same_length same_place

  same_size : body_size (length_of m) ≡ body_size_under short_scripts (length_of_under short_scripts m)
  unfolding body_size_under
  same_size = ap₂ (λ (p n : ℕ). p + n + 2) same_place same_length

  same_part : body_of m ≡ body_of_under short_scripts m
  unfolding body_of_under
  same_part = ap (λ (k : ℕ). take k m) same_size

  same_code : code_in m ≡ code_in_under short_scripts m
  unfolding code_in_under
  same_code = ap (λ (k : ℕ). drop k m) same_size

  few : length (data_of_under short_scripts m) ≤ 127
  unfolding data_of_under length_of_under
  few =
      let d = drop (place_of_under short_scripts (get_or m 1 0)) m in
      let l = length-take (get_or m 1 0) d in
      let k = min-le_left (get_or m 1 0) (length d) in
      omega arith

  same_body : body (tag_of m) (data_of m) ≡ body_under short_scripts (tag_of m) (data_of_under short_scripts m)
  same_body = ap (body (tag_of m)) same_data ∙ body_short (tag_of m) (data_of_under short_scripts m) few

  same_most : leb (length_of m) largest ≡ leb (length_of_under short_scripts m) short_scripts.largest
  unfolding largest length_of_under
  same_most = let e = same_length in le-leb (length_of m) 255 (omega arith) ∙ sym (le-leb (get_or m 1 0) 127 h)

  same_shape : shape m ≡ shape_under short_scripts m
  unfolding shape_under
  same_shape =
      ap₂ (λ (x y : Bool). tag_fits (tag_of m) && (x && (y && eqb (length (code_in m)) 4))) same_most (ap₂ same same_part same_body)
      ∙ ap (λ (c : List ℕ). tag_fits (tag_of m) && (leb (length_of_under short_scripts m) short_scripts.largest && (same (body_of_under short_scripts m) (body_under short_scripts (tag_of m) (data_of_under short_scripts m)) && eqb (length c) 4))) same_code

  same_fits : (key header : List ℕ) → code_fits key header m ≡ code_fits_under short_scripts key header m
  unfolding code_fits_under
  same_fits key header =
      ap₂ (λ (x y : Bool). given key header && (x && y)) same_shape (ap₂ same same_code (ap (code_for key header) same_part))

  same_found : found_in m ≡ found_in_under short_scripts m
  same_found = ap₂ (found (tag_of m)) same_place same_length

  same_shaped : shaped m ≡ shaped_under short_scripts m
  unfolding shaped_under
  same_shaped = ap₂ (λ (x : Bool) (f : Found). cond x (Ok f) (Err ShapeWrong)) same_shape same_found

  same_opened : (key header : List ℕ) → opened key header m ≡ opened_under short_scripts key header m
  unfolding opened_under
  same_opened key header = rw (same_shape, same_fits key header, same_found)

  same_read : (r : Card) (header : List ℕ) → read r header m ≡ read_under short_scripts r header m
  same_read r header = rw (same_shape, same_length, same_fits (smi_key r) header, same_data)

-- another length byte: such a message was refused, and one of up to 135 bytes still is
module _ (m : List ℕ) (l : length m ≤ size_before) (h : 127 < get_or m 1 0) where
  refused_before : shape_under short_scripts m ≡ false
  unfolding shape_under length_of_under
  refused_before = simp (lt-leb (get_or m 1 0) 127 h, and-false)

  refused_now : shape m ≡ false
  unfolding length_of_under largest_short
  refused_now = go (shape m) refl (says (get_or m 1 0) (get_or m 2 0))
    where
      go : (b : Bool) → shape m ≡ b → Says (get_or m 1 0) (get_or m 2 0) → shape m ≡ false
      go false e s = e
      go true e (one x) = absurd (omega arith)
      go true e (two x y) =
          let g = shape_good m e in
          let n : length_of m ≡ get_or m 2 0 = says_long (get_or m 1 0) (get_or m 2 0) x y in
          let p : place_of (length_of m) ≡ 3 = ap place_of n ∙ place_long (get_or m 2 0) y in
          let k = g.long in
          absurd (omega arith)
      go true e (none x) = let g = shape_good m e in let k = g.most in let n : length_of m ≡ largest + 1 = x in absurd (omega arith)

  refused_shaped : shaped m ≡ shaped_under short_scripts m
  unfolding shaped_under
  refused_shaped = simp (refused_now, refused_before)

  refused_fits : (key header : List ℕ) → code_fits key header m ≡ code_fits_under short_scripts key header m
  unfolding code_fits_under
  refused_fits key header = simp (refused_now, refused_before)

  refused_opened : (key header : List ℕ) → opened key header m ≡ opened_under short_scripts key header m
  unfolding opened_under
  refused_opened key header = go (given key header) refl
    where
      go : (b : Bool) → given key header ≡ b → opened key header m ≡ opened_under short_scripts key header m
      go true e = simp (e, refused_now, refused_before)
      go false e = simp (e)

-- a call that reads a message
abbrev reads_message : Call → Bool
reads_message (Script h m) = true
reads_message (Open d) = false
reads_message (IssuerAnswer a u) = false
reads_message Close = false
reads_message Withdraw = false
reads_message Counters = false
reads_message (CheckPin b) = false

-- a script by what its message is to the record
abbrev pub script_as : Card → Message → Verdict → Reply
script_as r x (refuse q) = plain (refused_script r q) (number q)
script_as r x accept = plain (accepted_script r x) 0

abbrev pub scripted : Card → List ℕ → Message → Reply
scripted r h x = cond (sound r) (script_as r x (judged_script r h x)) (plain r 1)

pub script_so : (k : Rules) (r : Card) (h m : List ℕ) → step_under k r (Script h m) ≡ scripted r h (read_under k r h m)
unfolding judged_under due_under after_under
script_so k r h m = go (sound r) (judged_script r h (read_under k r h m))
  where
    go : (b : Bool) (v : Verdict) → reply (cond b (after_by_under k r (Script h m) v) r) (cond b (due_by r (Script h m) v) (only 1)) ≡ cond b (script_as r (read_under k r h m) v) (plain r 1)
    go true (refuse q) = refl
    go true accept = refl
    go false v = refl

-- the other calls read no message
module _ (k j : Rules) (r : Card) where
  same_by : (c : Call) → accepted_under k r c ≡ accepted_under j r c → (b : Bool) (v : Verdict)
      → reply (cond b (after_by_under k r c v) r) (cond b (due_by r c v) (only 1)) ≡ reply (cond b (after_by_under j r c v) r) (cond b (due_by r c v) (only 1))
  same_by c e true (refuse q) = refl
  same_by c e true accept = ap (λ (x : Card). reply x (gives r c)) e
  same_by c e false v = refl

  pub other_call : (c : Call) → reads_message c ≡ false → step_under k r c ≡ step_under j r c
  unfolding judged_under due_under after_under
  other_call (Open d) z = same_by (Open d) refl (sound r) (judged_under k r (Open d))
  other_call (IssuerAnswer a u) z = same_by (IssuerAnswer a u) refl (sound r) (judged_under k r (IssuerAnswer a u))
  other_call (Script h m) z = absurd (true≢false z)
  other_call Close z = same_by Close refl (sound r) (judged_under k r Close)
  other_call Withdraw z = same_by Withdraw refl (sound r) (judged_under k r Withdraw)
  other_call Counters z = same_by Counters refl (sound r) (judged_under k r Counters)
  other_call (CheckPin b) z = same_by (CheckPin b) refl (sound r) (judged_under k r (CheckPin b))

-- of a message of no good shape nothing else is read
unshaped_verdict : (r : Card) (h : List ℕ) (x : Message) → x.shaped ≡ false
    → judged_script r h x ≡ refuse (cond (is_open r.transaction.phase) (cond (eqb (length h) 4) ShapeWrong Input) PhaseWrong)
unfolding judged_script
unshaped_verdict r h x e = go (is_open r.transaction.phase) (eqb (length h) 4) x.shaped _ e
  where
    go : (o l s : Bool) (v : Verdict) → s ≡ false
        → cond (not o) (refuse PhaseWrong) (cond (not l) (refuse Input) (cond (not s) (refuse ShapeWrong) v)) ≡ refuse (cond o (cond l ShapeWrong Input) PhaseWrong)
    go false l s v z = refl
    go true false s v z = refl
    go true true false v z = refl
    go true true true v z = absurd (true≢false z)

unshaped : (r : Card) (h : List ℕ) (x y : Message) → x.shaped ≡ false → y.shaped ≡ false → scripted r h x ≡ scripted r h y
unshaped r h x y ex ey =
    ap (λ (v : Verdict). cond (sound r) (script_as r x v) (plain r 1)) (unshaped_verdict r h x ex)
    ∙ sym (ap (λ (v : Verdict). cond (sound r) (script_as r y v) (plain r 1)) (unshaped_verdict r h y ey))

-- a message of up to 135 bytes
module _ (m : List ℕ) (l : length m ≤ size_before) where
  by_form : {A : Type 0} → (get_or m 1 0 ≤ 127 → A) → (127 < get_or m 1 0 → A) → A
  unfolding largest_short
  by_form {A = A} f g = go (form (get_or m 1 0))
    where
      go : Form (get_or m 1 0) → A
      go (short h) = f h
      go (long h) = g h

  pub shaped_as_before : shaped m ≡ shaped_under short_scripts m
  shaped_as_before = by_form (same_shaped m) (refused_shaped m l)

  pub fits_as_before : (key header : List ℕ) → code_fits key header m ≡ code_fits_under short_scripts key header m
  fits_as_before key header = by_form (λ h. same_fits m h key header) (λ h. refused_fits m l h key header)

  pub opened_as_before : (key header : List ℕ) → opened key header m ≡ opened_under short_scripts key header m
  opened_as_before key header = by_form (λ h. same_opened m h key header) (λ h. refused_opened m l h key header)

  pub script_as_before : (r : Card) (header : List ℕ) → step r (Script header m) ≡ step_under short_scripts r (Script header m)
  script_as_before r header =
      script_so present r header m
      ∙ by_form (λ h. ap (scripted r header) (same_read m h r header)) (λ h. unshaped r header (read r header m) (read_under short_scripts r header m) (refused_now m l h) (refused_before m l h))
      ∙ sym (script_so short_scripts r header m)
