-- The rules before a wish: those of today with what the wish moved as it was. Assumes nothing.
use Rattle.std.specs.Prelude.{ℕ, false, [], ◌∷◌}
use Rattle.shapes.specs.Rules.{Rules, present}

-- Wish 1. 01: "one length byte L from 0 to 127"; "more than 280 digits is 13"
abbrev pub short_scripts : Rules
short_scripts =
    record {
      largest = 127;
      field = λ (n : ℕ). n ∷ [];
      says = λ (a b : ℕ). a;
      commands = present.commands;
      longest = 280;
      last_frame = present.last_frame;
      tries_given = present.tries_given;
    }

-- Wish 4. 01: "a first byte above 06 .. is 13", and a frame 00 has no byte for the tries
abbrev pub no_checks : Rules
no_checks =
    record {
      largest = present.largest;
      field = present.field;
      says = present.says;
      commands = present.commands;
      longest = present.longest;
      last_frame = 6;
      tries_given = false;
    }
