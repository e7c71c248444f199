-- Card keys by 01 alone, before Wish 3: a short X gets its zero digits after it. Each definition has the name of the one that stands in its place
-- now; what does not touch the side of the zeros is taken from there. Assumes nothing.
use Rattle.std.specs.Prelude.{ℕ, ◌-◌, List, ◌++◌, length, drop, replicate, Result}
use Rattle.octets.specs.Digits.{pairs}
use Rattle.answers.specs.declared.Refusal.{Refusal}
use Rattle.keys.specs.CardNumber.{X}
use Rattle.keys.specs.Answers.{card_answer}

-- "the last 16 digits of X. A shorter X gets zero digits after it until there are 16."
unfoldable pub sixteen : List ℕ → List ℕ
sixteen x = drop (length x - 16) x ++ replicate (16 - length x) 0

-- the seed by pairs of digits, and packed
unfoldable pub Y : List ℕ → ℕ → List ℕ
Y pan sequence = pairs 10 (sixteen (X pan sequence))

unfoldable pub packed_y : List ℕ → ℕ → List ℕ
packed_y pan sequence = pairs 16 (sixteen (X pan sequence))

-- and the key
unfoldable pub card_key : List ℕ → List ℕ → ℕ → Result (List ℕ) Refusal
card_key key pan sequence = card_answer key pan sequence (Y pan sequence)

unfoldable pub card_key_packed : List ℕ → List ℕ → ℕ → Result (List ℕ) Refusal
card_key_packed key pan sequence = card_answer key pan sequence (packed_y pan sequence)
