use native.Mathlib.Omega.{arith}
use Rattle.stored.proofs.FormLaws.{out_start, out_turn, out_end}
use borrow.Author.Rules.{rules}
use Rattle.stored.proofs.table_out.Goals as goal

pub loop-i-init : goal.loop-i-init
loop-i-init c = (c.requires, search rules, out_start _ _)

pub loop-i-preserved : goal.loop-i-preserved
loop-i-preserved c = let l = c.loop-i in (
  l.invariant.0,
  l.invariant.1,
  out_turn _ _ _ _ l.i _ _ l.invariant.0 l.invariant.1 (omega arith) l.invariant.2 c.entry_out.ensures (search rules) c.copy_from_slice.ensures.after,
)

pub returns : goal.returns
returns c = let l = c.loop-i in
    out_end _ _ _ l.i l.invariant.0 l.invariant.1 (omega arith) l.invariant.2
