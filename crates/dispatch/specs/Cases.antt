-- What the frames say once, in cases said of a line's own signs: a slip there, made in the code alike, is refused here. Assumes nothing.
use Rattle.std.specs.Prelude.{ℕ, ◌≤◌, ◌≡◌, true, List, [], ◌∷◌, ◌++◌, replicate, take}
use Rattle.lines.specs.declared.Held.{Held}
use Rattle.lines.specs.Lines.{octets_of, readable, hex_text}
use Rattle.lines.specs.Answers.{nothing, holding, numbered}
use Rattle.frames.specs.Frames.{answer_to}
use Rattle.trace.specs.Traced.{traced}
use Rattle.history.specs.Examples.{idle, open_at, spoilt_at}
use Rattle.history.specs.Cases.{blocked}

-- n signs 0; a frame 00 with some signs for its counter and mark and n more at its end, for the PIN 1234
abbrev pub zeros : ℕ → List ℕ
zeros n = replicate n 48

abbrev pub loading_line : List ℕ → ℕ → ℕ → List ℕ
loading_line counter mark n =
    48 ∷ 48 ∷ (zeros 192 ++ (counter ++ (zeros 16 ++ 48 ∷ mark ∷ 50 ∷ 52 ∷ 49 ∷ 50 ∷ 51 ∷ 52 ∷ (replicate 10 102 ++ zeros n))))

-- 01: "Whole case. Input lines: 05; an empty line; 00, 192 zeros, ffff, 16 zeros, 00, 241234ffffffffff; 01 and 130 zeros; 04; 05; 06."
abbrev pub whole_input : List ℕ
whole_input =
    48 ∷ 53 ∷ 10 ∷ 10 ∷ (loading_line (replicate 4 102) 48 0 ++ 10 ∷ 48 ∷ 49 ∷ (zeros 130 ++ 10 ∷ 48 ∷ 52 ∷ 10 ∷ 48 ∷ 53 ∷ 10 ∷ 48 ∷ 54 ∷ 10 ∷ []))

-- "06, 0d, 00, 07, 06, 00, 06"
abbrev pub whole_output : List ℕ
whole_output =
    48 ∷ 54 ∷ 10 ∷ 48 ∷ 100 ∷ 10 ∷ 48 ∷ 48 ∷ 10 ∷ 48 ∷ 55 ∷ 10 ∷ 48 ∷ 54 ∷ 10 ∷ 48 ∷ 48 ∷ 10 ∷ 48 ∷ 54 ∷ 10 ∷ []

pub record TraceCases : Type 0 where
  pub whole : traced whole_input ≡ whole_output
  -- "A wrong frame length for a fixed frame .. or a mark above 01, is 1"; refused, 00 leaves the record
  pub two_bytes_more : (h : Held) → answer_to h (loading_line (zeros 4) 48 4) ≡ numbered h 1
  pub a_byte_less : (h : Held) → answer_to h (take 230 (loading_line (zeros 4) 48 0)) ≡ numbered h 1
  pub mark_of_two : (h : Held) → answer_to h (loading_line (zeros 4) 50 0) ≡ numbered h 1
  -- the tries: "one byte for it at its end; above 3 it is 1, and a frame without it, as in old traces, means three" (Wish 4)
  pub no_tries : (h : Held) → (answer_to h (loading_line (zeros 4) 48 2)).after.card.tries ≡ 0
  pub three_tries : (h : Held) → (answer_to h (loading_line (zeros 4) 48 0)).after.card.tries ≡ 3
  pub four_tries : (h : Held) → answer_to h (loading_line (zeros 4) 48 0 ++ 48 ∷ 52 ∷ []) ≡ numbered h 1
  -- 04, 05 and 06 with bytes after change nothing, whatever is held
  pub surplus : (h : Held) (l : List ℕ) (f b : ℕ) (s : List ℕ) → readable l ≡ true → octets_of l ≡ f ∷ b ∷ s → 4 ≤ f → f ≤ 6 → (answer_to h l).after ≡ h
  -- "Frame 07 .. answers 6 before a record exists; the check for unreadable lines now starts above 07" (Wish 4); "more than 280 digits", now 538
  pub seven : answer_to nothing (48 ∷ 55 ∷ zeros 16) ≡ numbered nothing 6
  pub eight : (h : Held) → answer_to h (48 ∷ 56 ∷ []) ≡ numbered h 13
  pub too_long : (h : Held) → answer_to h (zeros 540) ≡ numbered h 13
  -- "phase comes first": 04 and 06 with a byte after are 6 with none open, else 1; 05 is 1
  pub surplus_04 : answer_to (holding idle) (48 ∷ 52 ∷ 48 ∷ 48 ∷ []) ≡ numbered (holding idle) 6
  pub surplus_05 : answer_to (holding idle) (48 ∷ 53 ∷ 48 ∷ 48 ∷ []) ≡ numbered (holding idle) 1
  pub surplus_06 : answer_to (holding idle) (48 ∷ 54 ∷ 48 ∷ 48 ∷ []) ≡ numbered (holding idle) 6
  pub surplus_open : answer_to (holding (open_at 0)) (48 ∷ 52 ∷ 48 ∷ 48 ∷ []) ≡ numbered (holding (open_at 0)) 1
  -- 02 has 12 bytes; 03 is cut after its header: a good shape of no listed command is 5; 07 has 8 bytes
  pub cut_02 : answer_to (holding (open_at 0)) (48 ∷ 50 ∷ zeros 26) ≡ numbered (holding (open_at 0)) 1
  pub cut_03 : answer_to (holding (open_at 0)) (hex_text (0x03 ∷ 0 ∷ 0 ∷ 0 ∷ 0 ∷ 0x81 ∷ 0x00 ∷ 0x8e ∷ 0x04 ∷ 1 ∷ 2 ∷ 3 ∷ 4 ∷ [])) ≡ numbered (holding (spoilt_at 0 [])) 5
  pub cut_07 : answer_to (holding (open_at 0)) (48 ∷ 55 ∷ zeros 18) ≡ numbered (holding (open_at 0)) 1
  -- 00 with another number in each field
  pub cut_00 : (h : Held)
      → answer_to h (hex_text (0x00 ∷ (replicate 32 1 ++ (replicate 32 2 ++ (replicate 32 3 ++ 0x01 ∷ 0x04 ∷ 0 ∷ 5 ∷ 0 ∷ 6 ∷ 0 ∷ 7 ∷ 0 ∷ 8 ∷ 1 ∷ 0x24 ∷ 0x12 ∷ 0x34 ∷ (replicate 5 0xff ++ 2 ∷ []))))))
      ≡ numbered (holding blocked) 0
