use Rattle.std.proofs.Common.{◌≡◌, ◌*◌, ◌≤◌, length, drop}
use Rattle.rounds.specs.Keys.{schedule}
use Rattle.rounds.proofs.KeyLaws.{Filled}
use Rattle.rounds.proofs.round_keys.Given as goal

abbrev pub invariant-loop-i : goal.invariant-loop-i
invariant-loop-i l = (l.i ≤ 12) × (length l.k ≡ 8) × Filled (schedule l.c l.initial.k) (8 * l.i) l.b (schedule (drop l.i l.c) l.k)
