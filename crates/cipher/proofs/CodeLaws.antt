-- The code goes on over appended whole blocks; it is four octets. Assumes nothing.
use mathlib.Core.Path.{◌≡◌}
use Prim.Native.Nat.{ℕ, ◌*◌}
use mathlib.Core.List.{List, ◌++◌}
use lib.Dec.{lit<}
use lib.ListN.{length}
use Rattle.octets.specs.Numbers.{Octets}
use Rattle.octets.proofs.NumberLaws.{length-le_octets, octets-le_octets}
use Rattle.blocks.specs.Blocks.{absorbed}
use Rattle.blocks.proofs.Laws.{continued}
use Rattle.cipher.specs.Code.{code_step, start, state, code_of}

-- the state after n whole blocks and more is reached from the state after those blocks
pub code_continues : (ks : List ℕ) (n : ℕ) (m x : List ℕ) → length m ≡ n * 8 → state ks (m ++ x) ≡ absorbed 8 (code_step ks) (state ks m) x
unfolding state
code_continues ks n m x e = continued 8 (lit< tt) (code_step ks) n start m x e

pub length_code_of : (ks m : List ℕ) → length (code_of ks m) ≡ 4
unfolding code_of
length_code_of ks m = length-le_octets 4 (state ks m).n1

pub octets_code_of : (ks m : List ℕ) → Octets (code_of ks m)
unfolding code_of
octets_code_of ks m = octets-le_octets 4 (state ks m).n1
