use Rattle.lps.specs.Vectors.{X}
use Rattle.lps.specs.Inner.{first_word}
use Rattle.lps.proofs.Columns.{Made, Rest, length_X}
use Rattle.lps.proofs.turn_from.Given as goal

abbrev pub invariant-loop-k : goal.invariant-loop-k
invariant-loop-k l = Made (first_word l.upper) l.initial.s (X l.initial.s l.b) (length_X l.initial.s l.b) l.s l.x l.k × Rest (first_word l.upper) l.initial.s (X l.initial.s l.b) (length_X l.initial.s l.b) l.u l.v l.w
