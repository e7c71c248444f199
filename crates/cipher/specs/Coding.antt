-- The code under way, fed in parts of any length (Wish 5). Assumes nothing.
use Rattle.std.specs.Prelude.{ℕ, ◌%◌, Bool, ◌&&◌, cond, List, [], eqb, leb, length, take, Result, Ok, Err}
use Rattle.octets.specs.Lengths.{key_fits}
use Rattle.octets.specs.Numbers.{le_octets}
use Rattle.blocks.specs.Parts.{Way, filled, fits, counted}
use Rattle.gost.specs.declared.Halves.{Halves}
use Rattle.gost.specs.Gost.{subkeys}
use Rattle.answers.specs.declared.Refusal.{Refusal}
use Rattle.answers.specs.declared.Refusal.TheVariants.{Input}
use Rattle.cipher.specs.declared.Coding.{Coding}
use Rattle.cipher.specs.Code.{code_step, start}

-- the code at a state h under subkeys, that holds the bytes t, of a total n
unfoldable pub coding_of : List ℕ → Halves → List ℕ → ℕ → Coding
coding_of ks h t n = record { subkeys = ks; halves = h; buffer = filled 8 t; fill = length t; total = n }

-- the bytes that are not yet a block, whatever the buffer has after them
unfoldable pub held : Coding → List ℕ
held s = take (s.fill % 8) s.buffer

abbrev pub code_way : Way Coding Halves
code_way = record { size = 8; step = λ s. code_step s.subkeys; made = λ s. s.halves; held = held; total = λ s. s.total; anew = λ s. coding_of s.subkeys }

-- no bytes so far
unfoldable pub coding_begun : List ℕ → Coding
coding_begun ks = coding_of ks start [] 0

-- a key of 32 bytes; another is 1
unfoldable pub code_begun : List ℕ → Result Coding Refusal
code_begun key = cond (key_fits key) (Ok (coding_begun (subkeys 8 key))) (Err Input)

-- one part more; 1 where the total would pass 01's limit
unfoldable pub code_fed : Coding → List ℕ → Result Coding Refusal
code_fed s m = cond (fits s.total (length m)) (Ok (counted code_way s m)) (Err Input)

-- "an end with no full block, or with bytes left over, is refusal 1"
unfoldable pub is_whole : Coding → Bool
is_whole s = leb 8 s.total && eqb (length (held s)) 0

unfoldable pub code_ended : Coding → Result (List ℕ) Refusal
code_ended s = cond (is_whole s) (Ok (le_octets 4 s.halves.n1)) (Err Input)
