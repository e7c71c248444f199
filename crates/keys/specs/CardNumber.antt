-- The seed Y of a card master key (01, Keys; 003, clause 4.1 and annex A). Digits stand one to an element. Assumes nothing.
use Rattle.std.specs.Prelude.{ℕ, ◌-◌, ◌/◌, ◌%◌, Bool, ◌&&◌, List, [], ◌∷◌, ◌++◌, leb, length, drop, replicate}
use Rattle.octets.specs.Digits.{digits, pairs}

-- 01, refusal 2: a card number is 12 to 19 digits, a sequence number at most 99
unfoldable pub card_fits : List ℕ → ℕ → Bool
card_fits pan sequence = leb 12 (length pan) && (leb (length pan) 19 && (digits 0 (length pan) pan && leb sequence 99))

-- "X is the card number's digits followed by two digits of sequence number, 00 if it is absent" (absent is passed as 0)
unfoldable pub X : List ℕ → ℕ → List ℕ
X pan sequence = pan ++ sequence / 10 ∷ sequence % 10 ∷ []

-- "the last 16 digits of X. A shorter X gets zero digits" before it "until there are 16" (the side by Wish 3: EMV Book 2, option A)
unfoldable pub sixteen : List ℕ → List ℕ
sixteen x = replicate (16 - length x) 0 ++ drop (length x - 16) x

-- "Each pair of digits becomes one byte holding that pair's number, 0 to 99 (annex A of 003), not packed decimal."
unfoldable pub Y : List ℕ → ℕ → List ℕ
Y pan sequence = pairs 10 (sixteen (X pan sequence))

-- the other reading, by which the published master keys come out (docs/DECISIONS.md, point 1)
unfoldable pub packed_y : List ℕ → ℕ → List ℕ
packed_y pan sequence = pairs 16 (sixteen (X pan sequence))
