-- Feeding a trace in parts: the structs of the code. Assumes nothing.
use Rattle.std.specs.Prelude.{ℕ, ◌+◌, ◌≡◌, cond, List, [], ◌∷◌, ◌++◌, eqb, leb, length, take, drop, set, replicate}
use Rattle.lines.specs.declared.Said.{Said}
use Rattle.lines.specs.Lines.{longest, kept_signs}
use Rattle.lines.specs.Answers.{nothing}
use Rattle.lines.specs.Said.{longest_answer, said}
use Rattle.frames.specs.Frames.{answer_to}
use Rattle.trace.specs.declared.Trace.{Trace}
use Rattle.trace.specs.declared.Fed.{Fed}
use Rattle.trace.specs.declared.Filled.{Filled}

-- no record, and nothing read
abbrev pub begun : Trace
begun = record { held = nothing; line = replicate kept_signs 0; count = 0 }

-- the current line, of which one sign more than the longest is kept
unfoldable pub line_of : Trace → List ℕ
line_of t = take t.count t.line

unfoldable pub extended : Trace → ℕ → Trace
extended t b =
    cond (leb t.count longest) (record { held = t.held; line = set t.line t.count b; count = t.count + 1 }) t

-- no line was completed; the line was completed and answered
unfoldable pub resting : Trace → ℕ → Fed
resting t n = record { trace = t; taken = n; count = 0; answer = replicate longest_answer 0 }

abbrev pub closed : Trace → ℕ → Said → Fed
closed t n s =
    record {
      trace = record { held = s.held; line = t.line; count = 0 };
      taken = n;
      count = s.count;
      answer = s.answer;
    }

unfoldable pub completed : Trace → ℕ → Fed
completed t n = closed t n (said (answer_to t.held (line_of t)))

-- bytes up to and including the first line feed, of which n are taken already
unfoldable pub fed_from : Trace → ℕ → List ℕ → Fed
fed_from t n [] = resting t n
fed_from t n (b ∷ s) = cond (eqb b 10) (completed t (n + 1)) (fed_from (extended t b) (n + 1) s)

abbrev pub fed : Trace → List ℕ → Fed
fed t s = fed_from t 0 s

-- "a last line without one counts unless empty"
unfoldable pub ended : Trace → Fed
ended t = cond (eqb t.count 0) (resting t 0) (completed t 0)

-- the answer that a part gave
abbrev pub answer_in : Fed → List ℕ
answer_in f = take f.count f.answer

-- all bytes of a part: the trace after them, and the answers to the lines that they complete
unfoldable pub after_all : Trace → List ℕ → Trace
after_all t [] = t
after_all t (b ∷ s) = after_all (fed t (b ∷ [])).trace s

unfoldable pub answers_all : Trace → List ℕ → List ℕ
answers_all t [] = []
answers_all t (b ∷ s) = answer_in (fed t (b ∷ [])) ++ answers_all (fed t (b ∷ [])).trace s

-- parts, one after the other
unfoldable pub after_parts : Trace → List (List ℕ) → Trace
after_parts t [] = t
after_parts t (p ∷ ps) = after_parts (after_all t p) ps

unfoldable pub answers_parts : Trace → List (List ℕ) → List ℕ
answers_parts t [] = []
answers_parts t (p ∷ ps) = answers_all t p ++ answers_parts (after_all t p) ps

unfoldable pub joined : List (List ℕ) → List ℕ
joined [] = []
joined (p ∷ ps) = p ++ joined ps

-- a part fed into a buffer of a size, while there is room for the longest answer: the trace after it, how many bytes were taken, and the answers
pub record Filling : Type 0 where
  pub trace : Trace
  pub taken : ℕ
  pub text : List ℕ

-- n bytes are taken already, and w is written
unfoldable pub filling_from : ℕ → Trace → ℕ → List ℕ → List ℕ → Filling
filling_from size t n w [] = record { trace = t; taken = n; text = w }
filling_from size t n w (b ∷ s) =
    cond (leb (length w + longest_answer) size)
    (filling_from size (fed t (b ∷ [])).trace (n + 1) (w ++ answer_in (fed t (b ∷ []))) s)
    (record { trace = t; taken = n; text = w })

abbrev pub filling : ℕ → Trace → List ℕ → Filling
filling size t s = filling_from size t 0 [] s

-- the answers stand at the start of the buffer, and the rest of it stays
pub record Fills (q : Filling) (entry : List ℕ) (r : Filled) (exit : List ℕ) : Type 0 where
  pub answer : r ≡ record { trace = q.trace; taken = q.taken; written = length q.text }
  pub bytes : exit ≡ q.text ++ drop (length q.text) entry
