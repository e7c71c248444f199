-- What the wishes move. A definition that a wish moves takes the rules, and what was before the wish is that definition under the rules of then (the
-- crate before). Assumes nothing.
use Rattle.std.specs.Prelude.{ℕ, Bool, true, List}
use Rattle.shapes.specs.declared.command.Command.{Command}
use Rattle.shapes.specs.Length.{largest, length_field, field_says}
use Rattle.shapes.specs.Command.{listed}

-- the largest L of a message, the field that says a length, and what a field of two bytes or its first one says; the script commands; the digits of the
-- longest line, the last first byte of a frame, and whether a frame 00 may end in the tries
pub record Rules : Type 0 where
  pub largest : ℕ
  pub field : ℕ → List ℕ
  pub says : ℕ → ℕ → ℕ
  pub commands : List Command
  pub longest : ℕ
  pub last_frame : ℕ
  pub tries_given : Bool

-- today: "the longest trace line 538 digits" (Wish 1); "the check for unreadable lines now starts above 07" (Wish 4)
abbrev pub present : Rules
present = record { largest = largest; field = length_field; says = field_says; commands = listed; longest = 538; last_frame = 7; tries_given = true }
