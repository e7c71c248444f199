-- What private functions of this crate promise each other. Assumes nothing.
use Rattle.std.specs.Prelude.{ℕ, zero, suc, List, [], ◌++◌, take, drop, replicate, Result}
use Rattle.std.specs.Result.{result_unwrap_or}
use Rattle.derive.specs.Derivation.{card_label}
use Rattle.derive.specs.Kept.{derived_kept}
use Rattle.answers.specs.declared.Refusal.{Refusal}
use Rattle.keys.specs.Answers.{seed_answer}
use Rattle.cards.specs.Cards.{pan_of, sequence_of}

unfoldable pub seed_of : List ℕ → Result (List ℕ) Refusal
seed_of c = seed_answer (pan_of c) (sequence_of c)

-- the keys of the first n cards under the words of a kept key; of a card that has not the form, that of a seed of zeros
unfoldable pub keys_by : List ℕ → ℕ → List ℕ → List ℕ
keys_by ws zero cs = []
keys_by ws (suc n) cs = derived_kept ws card_label (result_unwrap_or (seed_of (take 21 cs)) (replicate 8 0)) ++ keys_by ws n (drop 21 cs)
