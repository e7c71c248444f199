use mathlib.Core.Bool.{not}
use mathlib.Core.Path.{refl, ap, ◌∙◌}
use native.Mathlib.Omega.{arith}
use lib.ListN.{length-set}
use borrow.Author.Rules.{rules}
use Rattle.table.proofs.Turns.{each_turn, forget_none, forget_done}
use Rattle.table.proofs.forget.Goals as goal

pub returns-then-not-is_held : goal.returns-then-not-is_held
returns-then-not-is_held c = search (forget_none, rules)

pub loop-e-init : goal.loop-e-init
loop-e-init c = (search rules, refl)

pub loop-e-preserved : goal.loop-e-preserved
loop-e-preserved c = let l = c.loop-e in (simp length-set l.invariant.0, each_turn _ _ l.e-index _ _ (omega arith) c.without.ensures ∙ l.invariant.1)

pub returns : goal.returns
returns c = let l = c.loop-e in
    forget_done _ _ _ c.is_held.ensures (ap not c.if-not-is_held.false) _ l.e-index (omega arith) l.invariant.1
