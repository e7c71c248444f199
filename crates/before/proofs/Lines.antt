-- Lines of up to 280 digits, and traces of them, read as before. Assumes nothing.
use mathlib.Core.Path.{◌≡◌, refl, sym, ap, ap₂, ◌∙◌}
use mathlib.Core.Bool.{Bool, true, false, ◌&&◌, ◌||◌, cond, and-eq-true_iff, true≢false}
use mathlib.Core.List.{List, [], ◌∷◌, ◌++◌}
use Prim.Native.Nat.{ℕ, ◌+◌, ◌≤◌}
use native.Mathlib.Omega.{arith}
use borrow.Author.Tests.{le-leb, lt-leb, leb-true, leb-false, eqb-false, eq-eqb, ne_eqb, not-true}
use lib.Dec.{leb, eqb}
use lib.ListN.{length, get_or, take, drop, length-drop}
use Rattle.octets.specs.Numbers.{be}
use Rattle.shapes.specs.Rules.{Rules, present}
use Rattle.shapes.specs.Shape.{shape_under, length_of_under, place_of_under, body_under, body_size_under, data_of_under, body_of_under, code_in_under}
use Rattle.message.specs.Code.{code_fits_under}
use Rattle.card.specs.Personalise.{blank, personalised}
use Rattle.history.proofs.Keeps.{neither}
use Rattle.card.specs.declared.Card.{Card}
use Rattle.card.specs.declared.Reply.{Reply}
use Rattle.card.specs.Calls.{Open, IssuerAnswer, Script, Close, Withdraw, Counters, CheckPin, plain, read, read_under, step, step_under}
use Rattle.lines.specs.declared.Held.{Held}
use Rattle.lines.specs.Lines.{longest, last_frame, lines, octets_of, hexadecimal, readable, readable_under, line_for}
use Rattle.lines.specs.Answers.{nothing, LineAnswer, numbered, replied}
use Rattle.frames.specs.Frames.{part, tries_in, personalised_by, personalised_by_under, starts, overlong, called, called_under, calling_under, framed, framed_under, answer_to, answer_to_under}
use Rattle.trace.specs.Traced.{answers, answers_under, traced_under}
use Rattle.before.specs.Base.{short_scripts, no_checks}
use Rattle.before.specs.Statement.{line_before, each, ReadsAsBefore, old_line, AnswersAsBefore}
use Rattle.before.proofs.Messages.{shaped_as_before, fits_as_before, opened_as_before, scripted, script_so, other_call, script_as_before}

-- two digits an octet
octets_half : (l : List ℕ) → length (octets_of l) + length (octets_of l) ≤ length l
unfolding octets_of
octets_half [] = omega arith
octets_half (a ∷ []) = omega arith
octets_half (a ∷ b ∷ l) = let h = octets_half l in omega arith

-- a frame under other rules: as today where its script is, and, of a 00, what it personalises
module _ (j : Rules) (s : List ℕ) (scripts : (r : Card) → step r (Script (take 4 s) (drop 4 s)) ≡ step_under j r (Script (take 4 s) (drop 4 s))) where
  same_called : (r : Card) (f : ℕ) → called r f s ≡ called_under j r f s
  unfolding called_under
  same_called r f = go (eqb f 1) (eqb f 2) (eqb f 3) (eqb f 4) (eqb f 5) (eqb f 6) (eqb (length s) 0)
    where
      chosen : Rules → Bool → Bool → Bool → Bool → Bool → Bool → Bool → Reply
      chosen k a b c d e g z =
          cond a (step_under k r (Open s))
          (cond b (step_under k r (IssuerAnswer (take 8 s) (drop 8 s)))
          (cond c (step_under k r (Script (take 4 s) (drop 4 s)))
          (cond d (cond z (step_under k r Close) (overlong r))
          (cond e (cond z (step_under k r Withdraw) (plain r 1))
          (cond g (cond z (step_under k r Counters) (overlong r)) (step_under k r (CheckPin s)))))))

      go : (a b c d e g z : Bool) → chosen present a b c d e g z ≡ chosen j a b c d e g z
      go true b c d e g z = other_call present j r (Open s) refl
      go false true c d e g z = other_call present j r (IssuerAnswer (take 8 s) (drop 8 s)) refl
      go false false true d e g z = scripts r
      go false false false true e g true = other_call present j r Close refl
      go false false false true e g false = refl
      go false false false false true g true = other_call present j r Withdraw refl
      go false false false false true g false = refl
      go false false false false false true true = other_call present j r Counters refl
      go false false false false false true false = refl
      go false false false false false false z = other_call present j r (CheckPin s) refl

  same_framed : (h : Held) (f : ℕ) → (eqb f 0 ≡ true → personalised_by s ≡ personalised_by_under j s) → framed h f s ≡ framed_under j h f s
  unfolding framed_under calling_under
  same_framed h f loads = go (eqb f 0) refl
    where
      calls : Rules → Reply → LineAnswer
      calls k p = cond h.exists (replied f p) (numbered h 6)

      go : (b : Bool) → eqb f 0 ≡ b
          → cond b (starts h (personalised_by s)) (calls present (called h.card f s)) ≡ cond b (starts h (personalised_by_under j s)) (calls j (called_under j h.card f s))
      go true e = ap (starts h) (loads e)
      go false e = ap (λ (p : Reply). cond h.exists (replied f p) (numbered h 6)) (same_called h.card f)

-- a line under other rules, where reading and framing agree; and lines that each pass a test
same_line : (j : Rules) (h : Held) (l : List ℕ) → readable l ≡ readable_under j l
    → framed h (get_or (octets_of l) 0 0) (drop 1 (octets_of l)) ≡ framed_under j h (get_or (octets_of l) 0 0) (drop 1 (octets_of l)) → answer_to h l ≡ answer_to_under j h l
unfolding answer_to_under
same_line j h l e f = ap₂ (λ (x : Bool) (a : LineAnswer). cond x a (numbered h 13)) e f

same_answers : (j : Rules) (test : List ℕ → Bool) → ((h : Held) (l : List ℕ) → test l ≡ true → answer_to h l ≡ answer_to_under j h l)
    → (ls : List (List ℕ)) → each test ls ≡ true → (h : Held) → answers h ls ≡ answers_under j h ls
unfolding each answers_under
same_answers j test ok [] e h = refl
same_answers j test ok (l ∷ ls) e h =
    let w = (and-eq-true_iff (test l) (each test ls)).0 e in
    ap (λ (a : LineAnswer). line_for a.octets ++ answers a.after ls) (ok h l w.0)
    ∙ ap (λ (t : List ℕ). line_for (answer_to_under j h l).octets ++ t) (same_answers j test ok ls w.1 (answer_to_under j h l).after)

-- Wish 1: a line of up to 280 digits is a frame of up to 139 bytes after its first: header, and a message of up to 135
module _ (h : Held) (l : List ℕ) (k : length l ≤ line_before) where
  short_readable : readable l ≡ readable_under short_scripts l
  unfolding readable_under
  short_readable =
      ap (λ (x : Bool). x && (hexadecimal l && leb (get_or (octets_of l) 0 0) last_frame)) (le-leb (length l) longest (omega arith) ∙ sym (le-leb (length l) 280 (omega arith)))

  short_loads : (s : List ℕ) → personalised_by s ≡ personalised_by_under short_scripts s
  unfolding personalised_by_under
  short_loads s = refl

  short_line : answer_to h l ≡ answer_to_under short_scripts h l
  short_line =
      let o = octets_of l in
      let s = drop 1 o in
      let n : length (drop 4 s) ≤ 135 = omega (arith, length-drop 4 s, length-drop 1 o, octets_half l) in
      same_line short_scripts h l short_readable
      (same_framed short_scripts s (λ r. script_as_before (drop 4 s) n r (take 4 s)) h (get_or o 0 0) (λ e. short_loads s))

pub reads_as_before : ReadsAsBefore
unfolding traced_under
reads_as_before =
    record {
      of_shape = shaped_as_before;
      of_code = λ key header m l. fits_as_before m l key header;
      of_opening = λ key header m l. opened_as_before m l key header;
      of_script = λ r header m l. script_as_before m l r header;
      of_line = short_line;
      of_trace = λ text e. same_answers short_scripts (λ (l : List ℕ). leb (length l) line_before) (λ h l t. short_line h l (leb-true _ _ t)) (lines text) e nothing;
    }

-- Wish 4: a script is as it is today
old_read : (r : Card) (h m : List ℕ) → read r h m ≡ read_under no_checks r h m
unfolding shape_under length_of_under place_of_under body_under body_size_under data_of_under body_of_under code_in_under code_fits_under
old_read r h m = refl

old_script : (r : Card) (h m : List ℕ) → step r (Script h m) ≡ step_under no_checks r (Script h m)
old_script r h m = script_so present r h m ∙ ap (scripted r h) (old_read r h m) ∙ sym (script_so no_checks r h m)

module _ (h : Held) (l : List ℕ) where
  abbrev f : ℕ
  f = get_or (octets_of l) 0 0

  -- what could be read can be read
  still : readable_under no_checks l ≡ true → readable l ≡ true
  unfolding readable_under
  still e =
      let a = (and-eq-true_iff (leb (length l) longest) _).0 e in
      let b = (and-eq-true_iff (hexadecimal l) _).0 a.1 in
      let n = leb-true f 6 b.1 in
      rw (a.0, b.0, le-leb f 7 (omega arith))

  not_then : readable l ≡ false → readable_under no_checks l ≡ false
  not_then e = go (readable_under no_checks l) refl
    where
      go : (b : Bool) → readable_under no_checks l ≡ b → readable_under no_checks l ≡ false
      go true w = absurd (true≢false (sym (still w) ∙ e))
      go false w = w

  module _ (seven : eqb f 7 ≡ false) (loaded : (eqb f 0 && eqb (length (octets_of l)) 117) ≡ false) where
    old_readable : readable l ≡ readable_under no_checks l
    unfolding readable_under
    old_readable = ap (λ (x : Bool). leb (length l) longest && (hexadecimal l && x)) (go (leb f 6) refl)
      where
        go : (b : Bool) → leb f 6 ≡ b → leb f 7 ≡ leb f 6
        go true e = let n = leb-true f 6 e in le-leb f 7 (omega arith) ∙ sym e
        go false e = let n = leb-false f 6 e in let z : f ≡ 7 → ⊥ = eqb-false f 7 seven in lt-leb f 7 (omega arith) ∙ sym e

    old_loads : eqb f 0 ≡ true → personalised_by (drop 1 (octets_of l)) ≡ personalised_by_under no_checks (drop 1 (octets_of l))
    unfolding personalised_by_under
    old_loads e =
        let s = drop 1 (octets_of l) in
        let n : length (octets_of l) ≡ 117 → ⊥ = λ y. true≢false (sym (rw (e, eq-eqb _ _ y)) ∙ loaded) in
        let z : eqb (length s) 116 ≡ false = ne_eqb (length s) 116 (λ y. n (omega (arith, length-drop 1 (octets_of l)))) in
        ap (λ (b : Bool). cond (eqb (length s) 115 || b) (personalised (part 0 32 s) (part 32 32 s) (part 64 32 s) (be (part 96 2 s)) (part 98 8 s) (get_or s 106 0) (part 107 8 s) (tries_in s)) (plain blank 1)) z

    read_alike : answer_to h l ≡ answer_to_under no_checks h l
    read_alike =
        let s = drop 1 (octets_of l) in
        same_line no_checks h l old_readable (same_framed no_checks s (λ r. old_script r (take 4 s) (drop 4 s)) h f old_loads)

  old_line_lem : old_line l ≡ true → answer_to h l ≡ answer_to_under no_checks h l
  unfolding old_line answer_to_under
  old_line_lem k = go (readable l) refl
    where
      go : (b : Bool) → readable l ≡ b → answer_to h l ≡ answer_to_under no_checks h l
      go true e = let n = neither (eqb f 7) _ (not-true _ (rw e at k)) in read_alike n.0 n.1
      go false e = rw (e, not_then e)

pub answers_as_before : AnswersAsBefore
unfolding traced_under
answers_as_before =
    record { of_line = old_line_lem; of_trace = λ text e. same_answers no_checks old_line old_line_lem (lines text) e nothing }
