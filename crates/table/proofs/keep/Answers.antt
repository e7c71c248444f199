use mathlib.Core.Bool.{not}
use mathlib.Core.Path.{refl, ap, ◌∙◌}
use native.Mathlib.Omega.{arith}
use lib.ListN.{length-set}
use borrow.Author.Rules.{rules}
use Rattle.table.proofs.Turns.{each_turn, keep_none, keep_done}
use Rattle.table.proofs.keep.Goals as goal

pub returns-then-not-is_held : goal.returns-then-not-is_held
returns-then-not-is_held c = search (keep_none, rules)

pub loop-e-init : goal.loop-e-init
loop-e-init c = (search rules, refl)

pub loop-e-preserved : goal.loop-e-preserved
loop-e-preserved c = let l = c.loop-e in (simp length-set l.invariant.0, each_turn _ _ l.e-index _ _ (omega arith) c.with.ensures ∙ l.invariant.1)

pub returns : goal.returns
returns c = let l = c.loop-e in
    keep_done _ _ _ c.is_held.ensures (ap not c.if-not-is_held.false) _ l.e-index (omega arith) _ l.invariant.1
