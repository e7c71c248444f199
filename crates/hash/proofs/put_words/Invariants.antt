use Rattle.std.proofs.Common.{◌≡◌, ◌*◌, take}
use Rattle.lps.specs.Vectors.{bytes}
use Rattle.hash.proofs.put_words.Given as goal

abbrev pub invariant-loop-i : goal.invariant-loop-i
invariant-loop-i l = take (8 * l.i) l.r ≡ bytes (take l.i l.v)
