use mathlib.Core.Path.{◌≡◌}
use Prim.Native.Nat.{◌-◌, ◌*◌}
use lib.ListN.{drop}
use Rattle.cards.specs.Cards.{all_fit}
use Rattle.cards.proofs.all_fit.Given as goal

abbrev pub invariant-loop-i : goal.invariant-loop-i
invariant-loop-i l = all_fit (l.n - l.i) (drop (21 * l.i) l.cards) ≡ all_fit l.n l.cards
