use Rattle.std.proofs.Common.{◌≡◌, ◌-◌, ◌*◌, ◌≤◌, length, drop}
use Rattle.rounds.specs.Keys.{through_keys}
use Rattle.rounds.proofs.compress_with.Given as goal

abbrev pub invariant-loop-i : goal.invariant-loop-i
invariant-loop-i l = (l.i ≤ 12) × (length l.keys ≡ 104) × (length l.s ≡ 8) × (through_keys (12 - l.i) (drop (8 * l.i) l.keys) l.s ≡ through_keys 12 l.keys l.m)
