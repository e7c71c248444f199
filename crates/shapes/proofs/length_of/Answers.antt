use native.Mathlib.Omega.{arith}
use Rattle.shapes.specs.Length.{largest, largest_short}
use Rattle.shapes.proofs.LengthLaws.{read_short, read_other, read_low, read_long}
use Rattle.shapes.proofs.length_of.Goals as goal
use Rattle.shapes.proofs.length_of.Goals.{then-first-ne-LONG_MARK-via-then-first-ne-LONG_MARK, then-first-ne-LONG_MARK-via-else-first-ne-LONG_MARK+then-second-le-LARGEST_SHORT}

pub returns-then-first-le-LARGEST_SHORT : goal.returns-then-first-le-LARGEST_SHORT
unfolding largest_short
returns-then-first-le-LARGEST_SHORT c = read_short _ _ c.byte_at-first.ensures (omega arith)

pub returns-then-first-ne-LONG_MARK : goal.returns-then-first-ne-LONG_MARK
unfolding largest largest_short
returns-then-first-ne-LONG_MARK c =
    elim c.then-first-ne-LONG_MARK.branch [
      | then-first-ne-LONG_MARK-via-then-first-ne-LONG_MARK w ↦ read_other _ _ c.byte_at-first.ensures (omega arith) (λ e. omega arith)
      | then-first-ne-LONG_MARK-via-else-first-ne-LONG_MARK+then-second-le-LARGEST_SHORT w ↦ read_low _ _ c.byte_at-first.ensures _ c.byte_at-second.ensures (omega arith) (omega arith)
    ]

pub returns : goal.returns
unfolding largest largest_short
returns c = read_long _ _ c.byte_at-first.ensures _ c.byte_at-second.ensures (omega arith) (omega arith)
