use Rattle.std.proofs.Common.{◌≡◌, length, drop}
use Rattle.rounds.specs.Rounds.{E}
use Rattle.rounds.proofs.compress_upper.Given as goal

abbrev pub invariant-loop-x : goal.invariant-loop-x
invariant-loop-x l = (length l.k ≡ 8) × (length l.s ≡ 8) × (E (drop l.x-index l.c) l.k l.s ≡ E l.c l.initial.k l.m)
