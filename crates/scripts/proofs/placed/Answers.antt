use native.Mathlib.Omega.{arith}
use Rattle.shapes.specs.Length.{largest}
use Rattle.scripts.proofs.LeafLaws.{placed_zero, placed_deep, both_next, both_end, placed_not, placed_last}
use Rattle.scripts.proofs.placed.Goals as goal
use Rattle.scripts.proofs.placed.Goals.{then-stands, else-stands, then-o-eq0-via-then-o-eq0, then-o-eq0-via-else-o-eq0+then-o-level}

pub returns-then-o-eq0 : goal.returns-then-o-eq0
returns-then-o-eq0 c =
    elim c.then-o-eq0.branch [
      | then-o-eq0-via-then-o-eq0 w ↦ placed_zero _ _ _ _ w.if-o-eq0.true
      | then-o-eq0-via-else-o-eq0+then-o-level w ↦ placed_deep _ _ _ _ w.if-o-level.true
    ]

pub returns-then-length_fits : goal.returns-then-length_fits
unfolding largest
returns-then-length_fits c =
    placed_last _ _ _ _ _ c.open_at.ensures _ c.stands.ensures (omega arith) (omega arith) _
    (elim c.if-stands.branch [
      | then-stands w ↦ both_next c.args.level c.args.holder c.args.o c.args.n _ c.open_at.ensures _ c.stands.ensures w.if-stands.true _ w.length_fits.ensures _ w.value-is
      | else-stands w ↦ both_end c.args.level c.args.holder c.args.o c.args.n _ c.open_at.ensures _ c.stands.ensures w.if-stands.false _ w.value-is
    ])
    c.if-length_fits.true

pub returns-else-length_fits : goal.returns-else-length_fits
unfolding largest
returns-else-length_fits c =
    placed_not _ _ _ _ _ c.open_at.ensures _ c.stands.ensures (omega arith) (omega arith) _
    (elim c.if-stands.branch [
      | then-stands w ↦ both_next c.args.level c.args.holder c.args.o c.args.n _ c.open_at.ensures _ c.stands.ensures w.if-stands.true _ w.length_fits.ensures _ w.value-is
      | else-stands w ↦ both_end c.args.level c.args.holder c.args.o c.args.n _ c.open_at.ensures _ c.stands.ensures w.if-stands.false _ w.value-is
    ])
    c.if-length_fits.false
