use mathlib.Core.Path.{◌≡◌}
use mathlib.Core.List.{List, map}
use Prim.Native.Nat.{ℕ, ◌%◌, ◌≤◌}
use lib.Seq.{paste}
use Rattle.octets.specs.Digits.{pairs}
use Rattle.pin.proofs.join.Given as goal

abbrev pub made : List ℕ → List ℕ
made h = pairs 16 (map (λ x. x % 16) h)

abbrev pub invariant-loop-i : goal.invariant-loop-i
invariant-loop-i l = (l.i ≤ 8) × (l.r ≡ paste l.initial.r 0 (made l.h) l.i)
