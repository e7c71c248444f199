use mathlib.Core.Path.{◌≡◌}
use mathlib.Core.List.{◌++◌}
use Prim.Native.Nat.{◌-◌, ◌*◌}
use lib.ListN.{length, take, drop}
use Rattle.cards.specs.Inner.{keys_by}
use Rattle.cards.proofs.put_keys.Given as goal

abbrev pub invariant-loop-i : goal.invariant-loop-i
invariant-loop-i l =
    (length l.out ≡ 32 * l.n) × (take (32 * l.i) l.out ++ keys_by l.kept (l.n - l.i) (drop (21 * l.i) l.cards) ≡ keys_by l.kept l.n l.cards)
