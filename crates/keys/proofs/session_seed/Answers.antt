use mathlib.Core.Path.{ap}
use mathlib.Core.List.{List, [], ◌∷◌}
use Prim.Native.Nat.{ℕ}
use lib.ListN.{get_or}
use Rattle.octets.specs.Numbers.{be_octets, le_octets}
use Rattle.keys.specs.Seeds.{session_seed}
use Rattle.keys.proofs.session_seed.Goals as goal

pub returns : goal.returns
unfolding session_seed be_octets le_octets
returns c = ap (λ (s : List ℕ). get_or s 0 0 ∷ get_or s 1 0 ∷ 0xf0 ∷ 0 ∷ 0 ∷ 0 ∷ 0 ∷ 0 ∷ []) c.high_first-c.ensures
