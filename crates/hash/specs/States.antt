-- A hash under way, fed in parts of any length. Assumes nothing.
use Rattle.std.specs.Prelude.{cond, List, [], ℕ, ◌%◌, length, take, Result, Ok, Err}
use Rattle.answers.specs.declared.Refusal.{Refusal}
use Rattle.answers.specs.declared.Refusal.TheVariants.{Input}
use Rattle.blocks.specs.Parts.{Way, filled, fits, poured, counted}
use Rattle.hash.specs.Hash.{start, block_step, finished}
use Rattle.hash.specs.declared.Core.{Core}
use Rattle.hash.specs.declared.State.{State}

-- the state at a core that holds the bytes t, of a total n
unfoldable pub state_of : Core → List ℕ → ℕ → State
state_of c t n = record { core = c; buffer = filled 64 t; fill = length t; total = n }

-- the bytes that a state holds, whatever its buffer has after them
unfoldable pub held : State → List ℕ
held s = take (s.fill % 64) s.buffer

abbrev pub hash_way : Way State Core
hash_way = record { size = 64; step = λ s. block_step; made = λ s. s.core; held = held; total = λ s. s.total; anew = λ s. state_of }

-- no bytes so far
unfoldable pub begun : State
begun = state_of start [] 0

-- the bytes held and all of m, which no total counts
unfoldable pub poured_into : State → List ℕ → State
poured_into s m = poured hash_way s m s.total

-- Wish 5: one part more
unfoldable pub fed : State → List ℕ → Result State Refusal
fed s m = cond (fits s.total (length m)) (Ok (counted hash_way s m)) (Err Input)

-- the hash of all the bytes so far
unfoldable pub ended : State → List ℕ
ended s = finished s.core (held s)
