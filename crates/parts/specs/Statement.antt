-- A message in parts over a state that the caller lends (Wish 5): it is cut any way. Assumes nothing.
use Rattle.std.specs.Prelude.{◌≡◌, cond, List, [], ◌∷◌, ℕ, ◌+◌, eqb, leb, length, Result}
use Rattle.std.specs.Result.{result_unwrap_or}
use Rattle.octets.specs.Numbers.{Octets}
use Rattle.answers.specs.declared.Refusal.{Refusal}
use Rattle.answers.specs.declared.Refusal.TheVariants.{Input}
use Rattle.answers.specs.Refusals.{number}
use Rattle.answers.specs.Answers.{number_told}
use Rattle.blocks.specs.Parts.{fitting, after_all}

-- parts of octets, as every part that is lent is
pub data Strings : List (List ℕ) → Type 0 where
  none : Strings []
  more : {m : List ℕ} {ms : List (List ℕ)} → Octets m → Strings ms → Strings (m ∷ ms)

-- "Cut any way, the answer is that of the whole", over bytes that are lent for a state, so many as size says. begun b is what a beginning leaves of them;
-- a part is answered by a number and leaves next; an end is answered by end_number and leaves end_after of a slice that is lent for room bytes. Begun and fed
-- with any parts, whatever the answers, a part is answered by how many bytes were taken before it, and an end by the number and the octets of the
-- answer to the bytes that fit, at once. Where the same bytes were taken, the lent bytes are the same. And for any bytes at all: a beginning, a part or an end
-- over another length is 1; where a beginning or a part is refused the state stays, where an end is refused the slice stays
pub record LentAnyWay (size : ℕ) (beginNumber : List ℕ → ℕ) (begun : List ℕ → List ℕ) (number_of : List ℕ → List ℕ → ℕ) (next : List ℕ → List ℕ → List ℕ) (end_number : List ℕ → List ℕ → ℕ)
    (end_after : List ℕ → List ℕ → List ℕ) (room : ℕ) (answer : List ℕ → Result (List ℕ) Refusal) : Type 0 where
  pub numbered : (b : List ℕ) (ms : List (List ℕ)) (m : List ℕ) → length b ≡ size → Strings ms
      → number_of (after_all next (begun b) ms) m ≡ cond (leb (length (fitting 0 ms) + length m) 4294967295) 0 (number Input)
  pub ended : (b : List ℕ) (ms : List (List ℕ)) (out : List ℕ) → length b ≡ size → Strings ms → length out ≡ room
      → (end_number (after_all next (begun b) ms) out ≡ number_told (answer (fitting 0 ms)))
      × (end_after (after_all next (begun b) ms) out ≡ result_unwrap_or (answer (fitting 0 ms)) out)
  pub same : (b : List ℕ) (ms ns : List (List ℕ)) → length b ≡ size → Strings ms → Strings ns → fitting 0 ms ≡ fitting 0 ns
      → after_all next (begun b) ms ≡ after_all next (begun b) ns
  pub begins : (b : List ℕ) → beginNumber b ≡ cond (eqb (length b) size) 0 1
  pub other_part : (b m : List ℕ) → (length b ≡ size → ⊥) → number_of b m ≡ 1
  pub other_end : (b out : List ℕ) → (length b ≡ size → ⊥) → end_number b out ≡ 1
  pub other_room : (b out : List ℕ) → (length out ≡ room → ⊥) → end_number b out ≡ 1
  pub unbegun : (b : List ℕ) → (beginNumber b ≡ 0 → ⊥) → begun b ≡ b
  pub unchanged : (b m : List ℕ) → (number_of b m ≡ 0 → ⊥) → next b m ≡ b
  pub unwritten : (b out : List ℕ) → (end_number b out ≡ 0 → ⊥) → end_after b out ≡ out
