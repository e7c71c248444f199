-- A message that comes in parts of any length, also none (Wish 5): begun, fed and ended, over any size of a block, step and state. Assumes nothing.
use Rattle.std.specs.Prelude.{◌≡◌, Bool, cond, List, [], ◌∷◌, ◌++◌, ℕ, ◌+◌, ◌-◌, ◌≤◌, leb, length, replicate}
use Rattle.answers.specs.declared.Refusal.TheVariants.{Input}
use Rattle.answers.specs.Refusals.{number}
use Rattle.blocks.specs.Blocks.{absorbed, tail}

-- "A total past 4,294,967,295 bytes is refusal 1": whether k bytes fit after n
unfoldable pub fits : ℕ → ℕ → Bool
fits n k = leb (n + k) 4294967295

-- the answer to a part m after n bytes
unfoldable pub part_number : ℕ → List ℕ → ℕ
part_number n m = cond (fits n (length m)) 0 (number Input)

-- the bytes of parts one after the other
unfoldable pub whole : List (List ℕ) → List ℕ
whole [] = []
whole (m ∷ ms) = m ++ whole ms

-- the bytes of the parts that fit, after n bytes: one that does not fit is refused, and the next follows on those before it
unfoldable pub fitting : ℕ → List (List ℕ) → List ℕ
fitting n [] = []
fitting n (m ∷ ms) = cond (leb (n + length m) 4294967295) (m ++ fitting (n + length m) ms) (fitting n ms)

module _ {S : Type 0} (next : S → List ℕ → S) where
  -- the state after parts one after the other, where next is the state after one, whatever the answer to it
  unfoldable pub after_all : S → List (List ℕ) → S
  after_all s [] = s
  after_all s (m ∷ ms) = after_all (next s m) ms

-- "Cut any way, the answer is that of the whole." Of any states: begun, fed with any parts one after the other, each answered by a number, and ended, the
-- answer is that to the bytes that fit, at once; a part is answered by how many bytes were taken before it; a refused one leaves the state as it was;
-- where the same bytes were taken the states are the same, in whatever way they were cut; and parts whose total is within the limit all fit
pub record CutAnyWay {S R : Type 0} (begun : S) (number_of : S → List ℕ → ℕ) (next : S → List ℕ → S) (ended : S → R) (answer : List ℕ → R) : Type 0 where
  pub answered : (ms : List (List ℕ)) → ended (after_all next begun ms) ≡ answer (fitting 0 ms)
  pub numbered : (ms : List (List ℕ)) (m : List ℕ)
      → number_of (after_all next begun ms) m ≡ cond (leb (length (fitting 0 ms) + length m) 4294967295) 0 (number Input)
  pub unchanged : (s : S) (m : List ℕ) → (number_of s m ≡ 0 → ⊥) → next s m ≡ s
  pub same : (ms ns : List (List ℕ)) → fitting 0 ms ≡ fitting 0 ns → after_all next begun ms ≡ after_all next begun ns
  pub within : (ms : List (List ℕ)) → length (whole ms) ≤ 4294967295 → fitting 0 ms ≡ whole ms

-- A message under way, as a state S: the size of a block, the step over one (which may read a key in S), what the whole blocks so far have made, the bytes
-- that are not yet a block, the total fed, and the state with the last three set anew
pub record Way (S A : Type 0) : Type 0 where
  pub size : ℕ
  pub step : S → A → List ℕ → A
  pub made : S → A
  pub held : S → List ℕ
  pub total : S → ℕ
  pub anew : S → A → List ℕ → ℕ → S

-- bytes, and zeros up to a block
unfoldable pub filled : ℕ → List ℕ → List ℕ
filled size t = t ++ replicate (size - length t) 0

module _ {S A : Type 0} (w : Way S A) where
  -- m goes after the bytes held: the whole blocks are taken, the rest is held, and the total is n
  unfoldable pub poured : S → List ℕ → ℕ → S
  poured s m n =
      w.anew s (absorbed w.size (w.step s) (w.made s) (w.held s ++ m)) (tail w.size (w.held s ++ m)) n

  -- and counted
  unfoldable pub counted : S → List ℕ → S
  counted s m = poured s m (w.total s + length m)

  -- after a part: where it is refused, the state as it was
  unfoldable pub after : S → List ℕ → S
  after s m = cond (fits (w.total s) (length m)) (counted s m) s
