-- The clerk's trace: from the whole input to the whole output (01, The clerk's trace). Assumes nothing.
use Rattle.std.specs.Prelude.{ℕ, List, [], ◌∷◌, ◌++◌}
use Rattle.shapes.specs.Rules.{Rules, present}
use Rattle.lines.specs.declared.Held.{Held}
use Rattle.lines.specs.Lines.{lines, line_for}
use Rattle.lines.specs.Answers.{nothing}
use Rattle.frames.specs.Frames.{answer_to_under}

-- "Each line is answered by one line"
unfoldable pub answers_under : Rules → Held → List (List ℕ) → List ℕ
answers_under k h [] = []
answers_under k h (l ∷ ls) = line_for (answer_to_under k h l).octets ++ answers_under k (answer_to_under k h l).after ls

abbrev pub answers : Held → List (List ℕ) → List ℕ
answers = answers_under present

-- no record exists at first
unfoldable pub traced_under : Rules → List ℕ → List ℕ
traced_under k input = answers_under k nothing (lines input)

abbrev pub traced : List ℕ → List ℕ
traced = traced_under present
