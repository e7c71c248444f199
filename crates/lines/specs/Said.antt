-- An answer as the struct of the code. Assumes nothing.
use Rattle.std.specs.Prelude.{ℕ, ◌-◌, List, ◌++◌, length, replicate}
use Rattle.lines.specs.declared.Said.{Said}
use Rattle.lines.specs.Lines.{line_for}
use Rattle.lines.specs.Answers.{LineAnswer}

-- a number, a kind, 8 bytes, and the line feed
abbrev pub longest_answer : ℕ
longest_answer = 21

-- a line at the start of an array of n bytes
unfoldable pub filled_to : ℕ → List ℕ → List ℕ
filled_to n s = s ++ replicate (n - length s) 0

-- an answer as a struct
unfoldable pub said : LineAnswer → Said
said a =
    record { held = a.after; count = length (line_for a.octets); answer = filled_to longest_answer (line_for a.octets) }
