-- Feeding into a buffer: the loop's turns, and what a run takes and answers. Assumes nothing.
use Prim.Native.Nat.{ℕ, zero, suc, ◌+◌, ◌-◌, ◌≤◌, ◌<◌}
use native.Mathlib.Omega.{arith}
use native.Mathlib.Nat.{add-zero, zero-add}
use mathlib.Core.Path.{◌≡◌, refl, sym, ap, ap₂, ◌∙◌, subst}
use mathlib.Core.Bool.{true, false}
use mathlib.Core.List.{List, [], ◌∷◌, ◌++◌, append_assoc, append-nil}
use lib.Dec.{leb, eqb}
use lib.ListN.{length, take, drop, length-append, length-drop, drop_of_length-le}
use lib.Seq.{drop-drop, length-take-le, paste, length-paste, take-paste, drop-paste}
use borrow.Author.Tests.{lt-leb, leb-false}
use Rattle.lines.specs.Said.{filled_to, said, longest_answer}
use Rattle.frames.proofs.FrameLaws.{rest_all}
use Rattle.trace.specs.declared.Trace.{Trace}
use Rattle.trace.specs.declared.Fed.{Fed}
use Rattle.trace.specs.declared.Filled.{Filled}
use Rattle.trace.specs.Feeding.{extended, resting, completed, fed_from, fed, ended, answer_in, after_all, answers_all, Filling, filling_from, filling, Fills}
use Rattle.trace.proofs.TraceLaws.{Split, fed_line, either}

-- an answer is no longer than its array
completed_count : (t : Trace) (n : ℕ) → (completed t n).count ≤ length (completed t n).answer
unfolding completed said filled_to
completed_count t n = simp length-append (omega arith)

fed_count : (s : List ℕ) (t : Trace) (n : ℕ) → (fed_from t n s).count ≤ length (fed_from t n s).answer
unfolding fed_from resting
fed_count [] t n = omega arith
fed_count (b ∷ s) t n = either (eqb b 10) (λ e. rw e (completed_count t (n + 1))) (λ e. rw e (fed_count s (extended t b) (n + 1)))

pub ended_count : (t : Trace) → (ended t).count ≤ length (ended t).answer
unfolding ended resting
ended_count t = either (eqb t.count 0) (λ e. rw e (omega arith)) (λ e. rw e (completed_count t 0))

-- a buffer d of which w bytes are written, k bytes of the input are taken, and u is the trace after them
pub record At (t : Trace) (s d₀ d : List ℕ) (u : Trace) (k w : ℕ) : Type 0 where
  pub taken : k ≤ length s
  pub room : length d ≡ length d₀
  pub written : w ≤ length d
  pub rest : drop w d ≡ drop w d₀
  pub runs : filling_from (length d₀) u k (take w d) (drop k s) ≡ filling (length d₀) t s

pub at_first : (t : Trace) (s d : List ℕ) → At t s d d t 0 0
at_first t s d = record { taken = omega arith; room = refl; written = omega arith; rest = refl; runs = refl }

take-drop : (w : ℕ) (d : List ℕ) → take w d ++ drop w d ≡ d
take-drop zero d = refl
take-drop (suc w) [] = refl
take-drop (suc w) (x ∷ d) = ap (λ (s : List ℕ). x ∷ s) (take-drop w d)

fills_of : (q : Filling) (d₀ d : List ℕ) (u : Trace) (k w : ℕ) → w ≤ length d → drop w d ≡ drop w d₀ → q ≡ record { trace = u; taken = k; text = take w d }
    → Fills q d₀ (record { trace = u; taken = k; written = w }) d
fills_of q d₀ d u k w h e g =
    rw g
    (record {
      answer = rw (length-take-le w d h);
      bytes = rw (length-take-le w d h) (sym (ap (λ (s : List ℕ). take w d ++ s) (sym e) ∙ take-drop w d));
    })

stopped : (size : ℕ) (u : Trace) (k : ℕ) (v s : List ℕ) → size < length v + longest_answer → filling_from size u k v s ≡ record { trace = u; taken = k; text = v }
unfolding filling_from
stopped size u k v [] h = refl
stopped size u k v (b ∷ s) h = rw (lt-leb _ _ h)

pub fills_end : (t : Trace) (s d₀ d : List ℕ) (u : Trace) (k w : ℕ) → At t s d₀ d u k w → length s ≤ k
    → Fills (filling (length d₀) t s) d₀ (record { trace = u; taken = k; written = w }) d
unfolding filling_from
fills_end t s d₀ d u k w a h =
    fills_of (filling (length d₀) t s) d₀ d u k w a.written a.rest
    (sym a.runs ∙ ap (filling_from (length d₀) u k (take w d)) (drop_of_length-le s {i = k} h))

pub fills_full : (t : Trace) (s d₀ d : List ℕ) (u : Trace) (k w : ℕ) → At t s d₀ d u k w → length d - w < 21
    → Fills (filling (length d₀) t s) d₀ (record { trace = u; taken = k; written = w }) d
fills_full t s d₀ d u k w a h =
    let m : length d₀ < length (take w d) + longest_answer = rw (length-take-le w d a.written) (omega (arith, a.room, a.written)) in
    fills_of (filling (length d₀) t s) d₀ d u k w a.written a.rest (sym a.runs ∙ stopped (length d₀) u k (take w d) (drop k s) m)

-- what a line that is fed takes and answers
module _ (s : List ℕ) (u : Trace) (k : ℕ) (f : Fed) (q : f ≡ fed u (take (length s - k) (drop k s))) where
  fed_split : Split u (drop k s) 0 f
  fed_split = subst (λ (g : Fed). Split u (drop k s) 0 g) (sym (q ∙ ap (fed u) (rest_all k s))) (fed_line u (drop k s))

  pub turn_count : length f.answer ≡ 21 → f.count ≤ 21
  turn_count h =
      let c : f.count ≤ length f.answer = rw q (fed_count (take (length s - k) (drop k s)) u 0) in
      omega arith

  pub turn_taken : k < length s → (k + f.taken ≤ length s) × (0 < f.taken)
  turn_taken l =
      let x : Split u (drop k s) 0 f = fed_split in
      let y : f.taken ≡ x.size = x.taken ∙ zero-add x.size in
      let b : x.size ≤ length s - k = simp length-drop at x.within in
      let g : 0 < length (drop k s) = simp length-drop (omega arith) in
      let o : 0 < x.size = x.some g in
      (omega arith, omega arith)

-- what a turn has room for, and that it takes something
pub record Turn (s d : List ℕ) (k w : ℕ) (f : Fed) : Type 0 where
  pub few : f.count ≤ 21
  pub fits : w + f.count ≤ length d
  pub within : k + f.taken ≤ length s
  pub less : length s - (k + f.taken) < length s - k

pub turn_fits : (t : Trace) (s d₀ d : List ℕ) (u : Trace) (k w : ℕ) (f : Fed) → At t s d₀ d u k w → k < length s → 21 ≤ length d - w
    → f ≡ fed u (take (length s - k) (drop k s)) → length f.answer ≡ 21 → Turn s d k w f
turn_fits t s d₀ d u k w f a l r q n =
    let c : f.count ≤ 21 = turn_count s u k f q n in
    let x : (k + f.taken ≤ length s) × (0 < f.taken) = turn_taken s u k f q l in
    let y = x.0 in
    let z = x.1 in
    record { few = c; fits = omega (arith, a.written); within = y; less = omega arith }

-- a turn: a line is fed, and its answer is written
pub at_turn : (t : Trace) (s d₀ d e : List ℕ) (u : Trace) (k w n : ℕ) (f : Fed) → At t s d₀ d u k w → k < length s → 21 ≤ length d - w
    → f ≡ fed u (take (length s - k) (drop k s)) → n ≡ f.count → n ≤ length f.answer → n ≤ 21 → e ≡ paste d w f.answer n
    → At t s d₀ e f.trace (k + f.taken) (w + n)
at_turn t s d₀ d e u k w n f a l r q c m o p =
    let x : Split u (drop k s) 0 f = fed_split s u k f q in
    let z : ℕ = x.size in
    let y : f.taken ≡ z = x.taken ∙ zero-add z in
    let b : z ≤ length s - k = simp length-drop at x.within in
    let h : w + n ≤ length d = omega (arith, a.written) in
    let i : length e ≡ length d = ap length p ∙ length-paste d w f.answer n h m in
    let g : take (w + n) e ≡ take w d ++ answer_in f =
    ap (take (w + n)) p ∙ take-paste d w f.answer n a.written m ∙ ap (λ (j : ℕ). take w d ++ take j f.answer) c
    in
    let j : drop (k + f.taken) s ≡ drop z (drop k s) = ap (λ (o : ℕ). drop (k + o) s) y ∙ sym (drop-drop z k s) in
    record {
      taken = omega (arith, a.taken);
      room = i ∙ a.room;
      written = omega arith;
      rest =
          ap (drop (w + n)) p
          ∙ drop-paste d w f.answer n a.written m
          ∙ sym (drop-drop n w d)
          ∙ ap (drop n) a.rest
          ∙ drop-drop n w d₀;
      runs =
          ap₂ (λ (o : ℕ) (v : List ℕ). filling_from (length d₀) f.trace (k + o) v (drop (k + f.taken) s)) y g
          ∙ ap (filling_from (length d₀) f.trace (k + z) (take w d ++ answer_in f)) j
          ∙ sym (x.run (length d₀) k (take w d) (rw (length-take-le w d a.written) (omega (arith, a.room, a.written))))
          ∙ a.runs;
    }

-- what a run takes, and what it answers: as many bytes as there is room for
pub record Ran (size : ℕ) (t : Trace) (n : ℕ) (w s : List ℕ) (q : Filling) : Type 0 where
  pub count : ℕ
  pub taken : q.taken ≡ n + count
  pub within : count ≤ length s
  pub trace : q.trace ≡ after_all t (take count s)
  pub text : q.text ≡ w ++ answers_all t (take count s)
  pub some : length w + longest_answer ≤ size → 0 < length s → 0 < count
  pub stops : count < length s → size < length q.text + longest_answer

ran_none : (size : ℕ) (t : Trace) (n : ℕ) (w : List ℕ) → Ran size t n w [] (filling_from size t n w [])
unfolding filling_from after_all answers_all
ran_none size t n w =
    record {
      count = 0;
      taken = sym (add-zero n);
      within = omega arith;
      trace = refl;
      text = sym (append-nil w);
      some = λ g h. h;
      stops = λ h. absurd (omega arith);
    }

ran_full : (size : ℕ) (t : Trace) (n : ℕ) (w : List ℕ) (b : ℕ) (s : List ℕ) → leb (length w + longest_answer) size ≡ false
    → Ran size t n w (b ∷ s) (filling_from size t n w (b ∷ s))
unfolding filling_from after_all answers_all
ran_full size t n w b s e =
    let l : size < length w + longest_answer = leb-false _ _ e in
    rw e
    (record {
      count = 0;
      taken = sym (add-zero n);
      within = omega arith;
      trace = refl;
      text = sym (append-nil w);
      some = λ g h. absurd (omega arith);
      stops = λ h. l;
    })

ran_more : (size : ℕ) (t : Trace) (n : ℕ) (w : List ℕ) (b : ℕ) (s : List ℕ) → leb (length w + longest_answer) size ≡ true
    → Ran size (fed t (b ∷ [])).trace (n + 1) (w ++ answer_in (fed t (b ∷ []))) s (filling_from size (fed t (b ∷ [])).trace (n + 1) (w ++ answer_in (fed t (b ∷ []))) s)
    → Ran size t n w (b ∷ s) (filling_from size t n w (b ∷ s))
unfolding filling_from after_all answers_all
ran_more size t n w b s e r =
    let f : Fed = fed t (b ∷ []) in
    rw e
    (record {
      count = suc r.count;
      taken = r.taken ∙ omega arith;
      within = omega (arith, r.within);
      trace = r.trace;
      text = r.text ∙ append_assoc w (answer_in f) (answers_all f.trace (take r.count s));
      some = λ g h. omega arith;
      stops = λ h. r.stops (omega arith);
    })

ran : (size : ℕ) (s : List ℕ) (t : Trace) (n : ℕ) (w : List ℕ) → Ran size t n w s (filling_from size t n w s)
ran size [] t n w = ran_none size t n w
ran size (b ∷ s) t n w =
    either (leb (length w + longest_answer) size)
    (λ e. ran_more size t n w b s e (ran size s (fed t (b ∷ [])).trace (n + 1) (w ++ answer_in (fed t (b ∷ [])))))
    (λ e. ran_full size t n w b s e)

pub run_law : (size : ℕ) (t : Trace) (s : List ℕ) → Ran size t 0 [] s (filling size t s)
run_law size t s = ran size s t 0 []

-- what whoever feeds a buffer again and again goes by
pub record Progress (s d₀ : List ℕ) (r : Filled) (d : List ℕ) : Type 0 where
  pub within : r.taken ≤ length s
  pub some : longest_answer ≤ length d₀ → 0 < length s → 0 < r.taken
  pub fits : r.written ≤ length d

pub progress : (t : Trace) (s d₀ d : List ℕ) (r : Filled) → Fills (filling (length d₀) t s) d₀ r d → Progress s d₀ r d
progress t s d₀ d r f =
    let q : Filling = filling (length d₀) t s in
    let a : Ran (length d₀) t 0 [] s q = run_law (length d₀) t s in
    let x : r.taken ≡ a.count = ap (λ (y : Filled). y.taken) f.answer ∙ a.taken ∙ zero-add a.count in
    let w : r.written ≡ length q.text = ap (λ (y : Filled). y.written) f.answer in
    let l : length d ≡ length q.text + length (drop (length q.text) d₀) = ap length f.bytes ∙ length-append q.text (drop (length q.text) d₀) in
    record {
      within = rw x a.within;
      some = λ h g. rw x (a.some h g);
      fits = omega arith;
    }
