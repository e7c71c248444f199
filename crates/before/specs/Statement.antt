-- What each wish left as it was: "Messages of up to 135 bytes and traces with no line above 280 digits read as before." (Wish 1); old traces (Wish 4).
-- Assumes nothing.
use Rattle.std.specs.Prelude.{ℕ, ◌≤◌, ◌≡◌, Bool, true, not, ◌&&◌, ◌||◌, List, [], ◌∷◌, leb, eqb, length, get_or}
use Rattle.shapes.specs.Answers.{shaped, shaped_under}
use Rattle.message.specs.Code.{code_fits, code_fits_under}
use Rattle.message.specs.Answers.{opened, opened_under, wrapped, wrapped_under}
use Rattle.card.specs.declared.Card.{Card}
use Rattle.card.specs.Calls.{Script, step, step_under}
use Rattle.lines.specs.declared.Held.{Held}
use Rattle.lines.specs.Lines.{lines, octets_of, readable}
use Rattle.frames.specs.Frames.{answer_to, answer_to_under}
use Rattle.trace.specs.Traced.{traced, traced_under}
use Rattle.before.specs.Base.{short_scripts, no_checks}

abbrev pub size_before : ℕ
size_before = 135

abbrev pub line_before : ℕ
line_before = 280

-- every line passes a test; no line above n signs
unfoldable pub each : (List ℕ → Bool) → List (List ℕ) → Bool
each test [] = true
each test (l ∷ ls) = test l && each test ls

abbrev pub none_above : ℕ → List (List ℕ) → Bool
none_above n ls = each (λ (l : List ℕ). leb (length l) n) ls

-- reading: shape, code, opening and Script of a message; a line, whatever lines stand beside it; a trace from its whole input to its whole output, and so
-- fed in parts, which answers the same
pub record ReadsAsBefore : Type 0 where
  pub of_shape : (m : List ℕ) → length m ≤ size_before → shaped m ≡ shaped_under short_scripts m
  pub of_code : (key header m : List ℕ) → length m ≤ size_before → code_fits key header m ≡ code_fits_under short_scripts key header m
  pub of_opening : (key header m : List ℕ) → length m ≤ size_before → opened key header m ≡ opened_under short_scripts key header m
  pub of_script : (r : Card) (header m : List ℕ) → length m ≤ size_before → step r (Script header m) ≡ step_under short_scripts r (Script header m)
  pub of_line : (h : Held) (l : List ℕ) → length l ≤ line_before → answer_to h l ≡ answer_to_under short_scripts h l
  pub of_trace : (text : List ℕ) → none_above line_before (lines text) ≡ true → traced text ≡ traced_under short_scripts text

-- and writing: "0 to 127 keeps its one byte"
pub record WritesAsBefore : Type 0 where
  pub of_wrapping : (key header : List ℕ) (tag : ℕ) (d b : List ℕ) (place : ℕ) → length d ≤ 127 → wrapped key header tag d b place ≡ wrapped_under short_scripts key header tag d b place

-- "a frame without it, as in old traces, means three" (Wish 4). A line of before: none that can be read and begins with 07 or is a frame 00 of 117 bytes
unfoldable pub old_line : List ℕ → Bool
old_line l =
    not (readable l && (eqb (get_or (octets_of l) 0 0) 7 || (eqb (get_or (octets_of l) 0 0) 0 && eqb (length (octets_of l)) 117)))

-- such a line, whatever is held, and a trace of such lines are answered as before
pub record AnswersAsBefore : Type 0 where
  pub of_line : (h : Held) (l : List ℕ) → old_line l ≡ true → answer_to h l ≡ answer_to_under no_checks h l
  pub of_trace : (text : List ℕ) → each old_line (lines text) ≡ true → traced text ≡ traced_under no_checks text
