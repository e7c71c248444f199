-- Fed in parts is fed at once (`fed_fed`), a part is fed line by line (`fed_line`), and what is fed is what the trace is answered (`traced_fed`), however
-- it is cut (`traced_parts`).
-- Assumes nothing.
use Prim.Native.Nat.{ℕ, suc, ◌+◌, ◌≤◌, ◌<◌}
use native.Mathlib.Omega.{arith}
use native.Mathlib.Nat.{add-zero}
use native.Mathlib.Numerals.{add-one}
use mathlib.Core.Path.{◌≡◌, refl, sym, ap, ap₂, ◌∙◌}
use mathlib.Core.Bool.{Bool, true, false}
use mathlib.Core.List.{List, [], ◌∷◌, ◌++◌, append_assoc, append-nil}
use lib.Dec.{eqb, leb}
use lib.ListN.{length, take, drop, length-append, length-take, length-set}
use lib.Seq.{take_all, take-append-le, take-append_seam, take-suc-set}
use borrow.Author.Tests.{eq-eqb, ne_eqb, le-leb, leb-true, leb-false}
use Rattle.lines.specs.declared.Held.{Held}
use Rattle.lines.specs.Lines.{longest, kept_signs, last_line, lines_from, line_for}
use Rattle.lines.specs.Answers.{LineAnswer}
use Rattle.lines.specs.Said.{filled_to, said, longest_answer}
use Rattle.frames.specs.Frames.{answer_to, answer_to_under}
use Rattle.frames.proofs.FrameLaws.{readable_long}
use Rattle.trace.specs.declared.Trace.{Trace}
use Rattle.trace.specs.declared.Fed.{Fed}
use Rattle.trace.specs.Traced.{answers, answers_under, traced, traced_under}
use Rattle.trace.specs.Feeding.{begun, line_of, extended, resting, completed, fed_from, fed, ended, answer_in, after_all, answers_all, after_parts, answers_parts, joined, filling_from}

-- fed in parts is fed at once: the same trace after it, and the answers joined
pub fed_fed : (t : Trace) (a b : List ℕ)
    → (after_all t (a ++ b) ≡ after_all (after_all t a) b) × (answers_all t (a ++ b) ≡ answers_all t a ++ answers_all (after_all t a) b)
unfolding after_all answers_all
fed_fed t [] b = (refl, refl)
fed_fed t (x ∷ a) b =
    let f : Fed = fed t (x ∷ []) in
    let r = fed_fed f.trace a b in
    (r.0, ap (λ (s : List ℕ). answer_in f ++ s) r.1 ∙ sym (append_assoc (answer_in f) (answers_all f.trace a) (answers_all (after_all f.trace a) b)))

-- what a completed line is answered
answer_in_lem : (t : Trace) (n : ℕ) → answer_in (completed t n) ≡ line_for (answer_to t.held (line_of t)).octets
unfolding completed said filled_to
answer_in_lem t n =
    take-append_seam (line_for (answer_to t.held (line_of t)).octets) _

-- one byte: the line feed, or a sign
one_line : (t : Trace) (b : ℕ) → eqb b 10 ≡ true → fed t (b ∷ []) ≡ completed t 1
unfolding fed_from
one_line t b e = rw e

one_sign : (t : Trace) (b : ℕ) → eqb b 10 ≡ false → fed t (b ∷ []) ≡ resting (extended t b) 1
unfolding fed_from
one_sign t b e = rw e

-- a part is fed line by line: what is fed up to a line feed, and then the rest
pub record Split (t : Trace) (s : List ℕ) (n : ℕ) (f : Fed) : Type 0 where
  pub size : ℕ
  pub taken : f.taken ≡ n + size
  pub within : size ≤ length s
  pub some : 0 < length s → 0 < size
  pub trace : after_all t s ≡ after_all f.trace (drop size s)
  pub answer : answers_all t s ≡ answer_in f ++ answers_all f.trace (drop size s)
  pub run : (room k : ℕ) (w : List ℕ) → length w + longest_answer ≤ room
      → filling_from room t k w s ≡ filling_from room f.trace (k + size) (w ++ answer_in f) (drop size s)

split_none : (t : Trace) (n : ℕ) → Split t [] n (fed_from t n [])
unfolding fed_from resting after_all answers_all
split_none t n =
    record {
      size = 0;
      taken = sym (add-zero n);
      within = omega arith;
      some = λ h. h;
      trace = refl;
      answer = refl;
      run = λ room k w h. ap₂ (λ (i : ℕ) (v : List ℕ). filling_from room t i v []) (sym (add-zero k)) (sym (append-nil w));
    }

split_line : (b : ℕ) (s : List ℕ) (t : Trace) (n : ℕ) → eqb b 10 ≡ true → Split t (b ∷ s) n (fed_from t n (b ∷ s))
unfolding fed_from completed after_all answers_all filling_from
split_line b s t n e =
    rw e
    (record {
      size = 1;
      taken = refl;
      within = omega arith;
      some = λ h. omega arith;
      trace = rw e;
      answer = rw e;
      run = λ room k w h. rw (le-leb _ _ h, e);
    })

split_sign : (b : ℕ) (s : List ℕ) (t : Trace) (n : ℕ) → eqb b 10 ≡ false → Split (extended t b) s (n + 1) (fed_from (extended t b) (n + 1) s)
    → Split t (b ∷ s) n (fed_from t n (b ∷ s))
unfolding fed_from resting after_all answers_all filling_from
split_sign b s t n e r =
    let f : Fed = fed_from (extended t b) (n + 1) s in
    rw e
    (record {
      size = suc r.size;
      taken = r.taken ∙ omega arith;
      within = omega (arith, r.within);
      some = λ h. omega arith;
      trace = rw e r.trace;
      answer = rw e r.answer;
      run =
          λ room k w h.
          let g : k + 1 + r.size ≡ k + suc r.size = omega arith in
          rw (le-leb _ _ h, e)
          (ap (λ (v : List ℕ). filling_from room (extended t b) (k + 1) v s) (append-nil w)
          ∙ r.run room (k + 1) w h
          ∙ ap (λ (i : ℕ). filling_from room f.trace i (w ++ answer_in f) (drop r.size s)) g);
    })

pub either : {P : Type 0} (v : Bool) → (v ≡ true → P) → (v ≡ false → P) → P
either true p q = p refl
either false p q = q refl

split : (s : List ℕ) (t : Trace) (n : ℕ) → Split t s n (fed_from t n s)
split [] t n = split_none t n
split (b ∷ s) t n = either (eqb b 10) (λ e. split_line b s t n e) (λ e. split_sign b s t n e (split s (extended t b) (n + 1)))

pub fed_line : (t : Trace) (s : List ℕ) → Split t s 0 (fed t s)
fed_line t s = split s t 0

-- a trace whose current line is l: one sign more than the longest line is kept
record Holds (t : Trace) (l : List ℕ) : Type 0 where
  room : length t.line ≡ kept_signs
  count : t.count ≡ length (take kept_signs l)
  line : line_of t ≡ take kept_signs l

holds_nothing : (t : Trace) → length t.line ≡ kept_signs → t.count ≡ 0 → Holds t []
unfolding line_of
holds_nothing t h e = record { room = h; count = e; line = rw e }

holds_sign : (t : Trace) (l : List ℕ) (b : ℕ) (v : Bool) → leb t.count longest ≡ v → Holds t l → Holds (extended t b) (l ++ b ∷ [])
unfolding extended line_of
holds_sign t l b true v h =
    let c : t.count ≤ longest = leb-true _ _ v in
    let m : length l ≤ longest = omega (arith, length-take kept_signs l, h.count) in
    let u : take kept_signs l ≡ l = take_all kept_signs l (omega arith) in
    let w : take kept_signs (l ++ b ∷ []) ≡ l ++ b ∷ [] = take_all kept_signs (l ++ b ∷ []) (simp length-append (omega arith)) in
    let k : t.count ≡ length l = h.count ∙ ap length u in
    let q : t.count < length t.line = omega (arith, h.room) in
    rw v
    (record {
      room = simp length-set h.room;
      count = rw w (simp length-append (omega arith));
      line = rw (w, add-one) (take-suc-set t.line t.count b q ∙ ap (λ (s : List ℕ). s ++ b ∷ []) (h.line ∙ u));
    })
holds_sign t l b false v h =
    let c : longest < t.count = leb-false _ _ v in
    let m : kept_signs ≤ length l = omega (arith, length-take kept_signs l, h.count) in
    let w : take kept_signs (l ++ b ∷ []) ≡ take kept_signs l = take-append-le kept_signs l (b ∷ []) m in
    rw v (record { room = h.room; count = h.count ∙ ap length (sym w); line = h.line ∙ sym w })

-- the answer does not depend on what is past the longest line
answer_cut : (h : Held) (l : List ℕ) (v : Bool) → leb (length l) kept_signs ≡ v → answer_to h (take kept_signs l) ≡ answer_to h l
unfolding answer_to_under
answer_cut h l true v = ap (answer_to h) (take_all kept_signs l (leb-true _ _ v))
answer_cut h l false v =
    let n : kept_signs < length l = leb-false _ _ v in
    let m : longest < length (take kept_signs l) = simp length-take (omega arith) in
    rw (readable_long l (omega arith), readable_long (take kept_signs l) m)

line_cut : (t : Trace) (l : List ℕ) → Holds t l → answer_to t.held (line_of t) ≡ answer_to t.held l
line_cut t l h = ap (answer_to t.held) h.line ∙ answer_cut t.held l (leb (length l) kept_signs) refl

extended_held : (t : Trace) (b : ℕ) (v : Bool) → leb t.count longest ≡ v → (extended t b).held ≡ t.held
unfolding extended
extended_held t b true e = rw e
extended_held t b false e = rw e

completed_held : (t : Trace) → (completed t 1).trace.held ≡ (answer_to t.held (line_of t)).after
unfolding completed said
completed_held t = refl

completed_holds : (t : Trace) (l : List ℕ) → Holds t l → Holds (completed t 1).trace []
unfolding completed
completed_holds t l h = holds_nothing (completed t 1).trace h.room refl

-- the end of the input
last_line_lem : (t : Trace) (l : List ℕ) → Holds t l → answer_in (ended t) ≡ answers t.held (last_line l)
unfolding ended resting answers_under
last_line_lem t [] h = rw (eq-eqb _ _ h.count)
last_line_lem t (x ∷ l) h =
    let n : t.count ≡ 0 → ⊥ = λ e. omega (arith, h.count) in
    rw (ne_eqb _ _ n) (answer_in_lem t 0 ∙ ap (λ (a : LineAnswer). line_for a.octets) (line_cut t (x ∷ l) h) ∙ sym (append-nil _))

-- the rest of the input, where l is read already
reads_line : (b : ℕ) (s : List ℕ) (t : Trace) (l : List ℕ) → Holds t l → eqb b 10 ≡ true
    → ((u : Trace) → Holds u [] → answers_all u s ++ answer_in (ended (after_all u s)) ≡ answers u.held (lines_from [] s))
    → answers_all t (b ∷ s) ++ answer_in (ended (after_all t (b ∷ s))) ≡ answers t.held (lines_from l (b ∷ s))
unfolding after_all answers_all answers_under lines_from
reads_line b s t l h e r =
    let u : Trace = (completed t 1).trace in
    let x : LineAnswer = answer_to t.held (line_of t) in
    let k : Holds u [] = completed_holds t l h in
    rw (e, one_line t b e)
    (append_assoc (answer_in (completed t 1)) (answers_all u s) (answer_in (ended (after_all u s)))
    ∙ ap₂ (λ (p q : List ℕ). p ++ q) (answer_in_lem t 1) (r u k ∙ ap (λ (g : Held). answers g (lines_from [] s)) (completed_held t))
    ∙ ap (λ (a : LineAnswer). line_for a.octets ++ answers a.after (lines_from [] s)) (line_cut t l h))

reads_sign : (b : ℕ) (s : List ℕ) (t : Trace) (l : List ℕ) → eqb b 10 ≡ false
    → answers_all (extended t b) s ++ answer_in (ended (after_all (extended t b) s)) ≡ answers (extended t b).held (lines_from (l ++ b ∷ []) s)
    → answers_all t (b ∷ s) ++ answer_in (ended (after_all t (b ∷ s))) ≡ answers t.held (lines_from l (b ∷ s))
unfolding after_all answers_all lines_from resting
reads_sign b s t l e r =
    rw (e, one_sign t b e) (r ∙ ap (λ (g : Held). answers g (lines_from (l ++ b ∷ []) s)) (extended_held t b (leb t.count longest) refl))

reads : (s : List ℕ) (t : Trace) (l : List ℕ) → Holds t l
    → answers_all t s ++ answer_in (ended (after_all t s)) ≡ answers t.held (lines_from l s)
unfolding after_all answers_all lines_from
reads [] t l h = last_line_lem t l h
reads (b ∷ s) t l h =
    either (eqb b 10) (λ e. reads_line b s t l h e (λ u k. reads s u [] k))
    (λ e. reads_sign b s t l e (reads s (extended t b) (l ++ b ∷ []) (holds_sign t l b (leb t.count longest) refl h)))

-- from the beginning, all answers to the input and the answer at its end are the whole output
pub traced_fed : (input : List ℕ) → answers_all begun input ++ answer_in (ended (after_all begun input)) ≡ traced input
unfolding traced_under
traced_fed input = reads input begun [] (holds_nothing begun refl refl)

-- however the input is cut into parts
parts : (ps : List (List ℕ)) (t : Trace)
    → (after_parts t ps ≡ after_all t (joined ps)) × (answers_parts t ps ≡ answers_all t (joined ps))
unfolding after_parts answers_parts joined after_all answers_all
parts [] t = (refl, refl)
parts (p ∷ ps) t =
    let r = parts ps (after_all t p) in
    let f = fed_fed t p (joined ps) in
    (r.0 ∙ sym f.0, ap (λ (s : List ℕ). answers_all t p ++ s) r.1 ∙ sym f.1)

pub traced_parts : (ps : List (List ℕ)) → answers_parts begun ps ++ answer_in (ended (after_parts begun ps)) ≡ traced (joined ps)
traced_parts ps =
    let r = parts ps begun in
    ap₂ (λ (s : List ℕ) (t : Trace). s ++ answer_in (ended t)) r.1 r.0 ∙ traced_fed (joined ps)
