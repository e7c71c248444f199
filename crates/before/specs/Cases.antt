-- The rules of before, in computed cases of 01: what a definition under them says does not move with today's. Assumes nothing.
use Rattle.std.specs.Prelude.{ℕ, ◌≡◌, List, [], ◌∷◌, replicate, Ok, Err}
use Rattle.answers.specs.declared.Refusal.TheVariants.{Input, ShapeWrong}
use Rattle.shapes.specs.Answers.{found, shaped_under}
use Rattle.message.specs.Answers.{open_number_under, opened_under, wrap_number_under}
use Rattle.lines.specs.declared.Held.{Held}
use Rattle.lines.specs.Answers.{numbered}
use Rattle.frames.specs.Frames.{answer_to_under}
use Rattle.trace.specs.Traced.{traced_under}
use Rattle.history.specs.Examples.{message_of}
use Rattle.dispatch.specs.Cases.{zeros, loading_line, whole_input, whole_output}
use Rattle.before.specs.Base.{short_scripts, no_checks}

pub record CasesBefore : Type 0 where
  -- before Wish 1: P10, "L byte 80 with 128 bytes after it is 4; 7f with 127 bytes is good"; 81 80 was 4
  pub byte_80 : (s : List ℕ) → shaped_under short_scripts (0x81 ∷ 0x80 ∷ s) ≡ Err ShapeWrong
  pub byte_7f : (a b c d : ℕ) → shaped_under short_scripts (message_of (0x7f ∷ []) 127 a b c d) ≡ Ok (found 0x81 2 127)
  pub byte_81 : (a b c d : ℕ) → shaped_under short_scripts (message_of (0x81 ∷ 0x80 ∷ []) 128 a b c d) ≡ Err ShapeWrong
  -- opening: 1 ahead of 4; wrapping: 1 ahead of 3, and "Its size is L + 8"
  pub opens_1_4 : open_number_under short_scripts [] [] [] ≡ 1
  pub refused_1_4 : opened_under short_scripts [] [] [] ≡ Err Input
  -- and 4 ahead of 8: what had another shape was not looked at further, whatever its code
  pub refused_4_8 : (a b c d : ℕ) → opened_under short_scripts (replicate 32 0) (replicate 4 0) (message_of (0x81 ∷ 0x80 ∷ []) 128 a b c d) ≡ Err ShapeWrong
  pub wraps_1_3 : wrap_number_under short_scripts [] (replicate 4 0) 0x81 0 7 0 ≡ 1
  pub wraps_128 : wrap_number_under short_scripts (replicate 32 0) (replicate 4 0) 0x81 128 300 0 ≡ 1
  pub wraps_3 : wrap_number_under short_scripts (replicate 32 0) (replicate 4 0) 0x81 127 134 0 ≡ 3
  pub wraps_0 : wrap_number_under short_scripts (replicate 32 0) (replicate 4 0) 0x81 127 135 0 ≡ 0
  -- "more than 280 digits is 13"
  pub too_long : (h : Held) → answer_to_under short_scripts h (zeros 282) ≡ numbered h 13
  -- before Wish 4: 07 was 13, and a frame 00 with a byte more was 1
  pub seven : (h : Held) → answer_to_under no_checks h (48 ∷ 55 ∷ zeros 16) ≡ numbered h 13
  pub a_byte_more : (h : Held) → answer_to_under no_checks h (loading_line (zeros 4) 48 2) ≡ numbered h 1
  -- and 01's whole case, before each
  pub whole_1 : traced_under short_scripts whole_input ≡ whole_output
  pub whole_4 : traced_under no_checks whole_input ≡ whole_output
