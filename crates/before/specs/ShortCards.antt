-- "Only X of 14 or 15 digits is touched, that is card numbers of 12 or 13 digits." (Wish 3) Assumes nothing.
use Rattle.std.specs.Prelude.{ℕ, ◌≡◌, Bool, true, false, not, ◌&&◌, List, leb, length, replicate}
use Rattle.octets.specs.Same.{same}
use Rattle.keys.specs.CardNumber.{card_fits, X, Y, packed_y}
use Rattle.keys.specs.Answers.{card_key, card_key_packed}
use Rattle.before.specs.ZerosAfter as old

-- X of 14 or 15 digits, with some digit that is not 0: zeros may stand on either side of zeros
unfoldable pub touched : List ℕ → Bool
touched x = leb 14 (length x) && (leb (length x) 15 && not (same x (replicate (length x) 0)))

-- for every card the seed is the one before exactly when X is not touched, in both readings; and where X is not touched, or there is no such card, so is the
-- answer for every issuer's key, refusals too
pub record TouchesShortCards : Type 0 where
  pub of_seed : (pan : List ℕ) (sequence : ℕ) → card_fits pan sequence ≡ true → same (Y pan sequence) (old.Y pan sequence) ≡ not (touched (X pan sequence))
  pub of_packed_seed : (pan : List ℕ) (sequence : ℕ) → card_fits pan sequence ≡ true → same (packed_y pan sequence) (old.packed_y pan sequence) ≡ not (touched (X pan sequence))
  pub of_key : (key pan : List ℕ) (sequence : ℕ) → (card_fits pan sequence && touched (X pan sequence)) ≡ false → card_key key pan sequence ≡ old.card_key key pan sequence
  pub of_packed_key : (key pan : List ℕ) (sequence : ℕ) → (card_fits pan sequence && touched (X pan sequence)) ≡ false → card_key_packed key pan sequence ≡ old.card_key_packed key pan sequence
