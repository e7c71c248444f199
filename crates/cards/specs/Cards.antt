-- The master keys of many cards (003, clause 4.1). A card is 21 bytes: the number of digits, nineteen places for them, and the sequence number.
-- Assumes nothing.
use Rattle.std.specs.Prelude.{ℕ, zero, suc, ◌*◌, ◌/◌, ◌%◌, Bool, true, ◌&&◌, cond, List, [], ◌++◌, eqb, length, get_or, take, drop, replicate}
use Rattle.std.specs.Result.{result_unwrap_or}
use Rattle.answers.specs.declared.Refusal.TheVariants.{Input, CardNumber}
use Rattle.answers.specs.Refusals.{number}
use Rattle.octets.specs.Lengths.{key_fits}
use Rattle.keys.specs.CardNumber.{card_fits}
use Rattle.keys.specs.Answers.{card_key}

-- the card number; a count above nineteen takes the sequence number too: twenty bytes, which are no card number
unfoldable pub pan_of : List ℕ → List ℕ
pan_of c = take (get_or c 0 0) (drop 1 c)

unfoldable pub sequence_of : List ℕ → ℕ
sequence_of c = get_or c 20 0

-- whether the first k cards have 01's form
unfoldable pub all_fit : ℕ → List ℕ → Bool
all_fit zero cs = true
all_fit (suc k) cs = card_fits (pan_of (take 21 cs)) (sequence_of (take 21 cs)) && all_fit k (drop 21 cs)

-- the keys of the first k cards, one after the other
unfoldable pub cards_keys : List ℕ → ℕ → List ℕ → List ℕ
cards_keys issuer zero cs = []
cards_keys issuer (suc k) cs = result_unwrap_or (card_key issuer (pan_of (take 21 cs)) (sequence_of (take 21 cs))) (replicate 32 0) ++ cards_keys issuer k (drop 21 cs)

-- a key of 32 bytes, whole cards, and 32 bytes lent for each
unfoldable pub lengths_fit : List ℕ → List ℕ → List ℕ → Bool
lengths_fit issuer cs lent = key_fits issuer && (eqb (length cs % 21) 0 && eqb (length lent) (32 * (length cs / 21)))

-- 1 for a length, 2 for a card
unfoldable pub cards_number : List ℕ → List ℕ → List ℕ → ℕ
cards_number issuer cs lent = cond (lengths_fit issuer cs lent) (cond (all_fit (length cs / 21) cs) 0 (number CardNumber)) (number Input)

-- the slice afterwards: the keys of all cards, or as it was
unfoldable pub cards_after : List ℕ → List ℕ → List ℕ → List ℕ
cards_after issuer cs lent = cond (lengths_fit issuer cs lent && all_fit (length cs / 21) cs) (cards_keys issuer (length cs / 21) cs) lent
