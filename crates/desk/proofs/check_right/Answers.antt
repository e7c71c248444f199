use mathlib.Core.Bool.{not}
use mathlib.Core.List.{List}
use mathlib.Core.Path.{ap, ◌∙◌}
use Prim.Native.Nat.{ℕ}
use borrow.Author.Rules.{rules}
use Rattle.std.specs.Prelude.{Ok}
use Rattle.std.proofs.lemmas.Result.{err_from_is_err_and}
use Rattle.desk.specs.Check.{given_by}
use Rattle.desk.proofs.DeskLaws.{is_given, arpc_given, arpc_is, right_old, right_new}
use Rattle.desk.proofs.check_right.Goals as goal

pub returns-then-not-above_last : goal.returns-then-not-above_last
returns-then-not-above_last c = search (right_old, rules)

pub returns-in_err-places : goal.returns-in_err-places
returns-in_err-places c =
    let p = err_from_is_err_and c.from_residual.result c.from_residual.ensures.1 in
    rw (p.1, p.2) (right_new _ _ _ _ _ _ _ c.above_last.ensures (ap not c.if-not-above_last.false) _ _ c.keep.ensures c.in_err-places.was)

pub unwrap-arpc-requires : goal.unwrap-arpc-requires
unwrap-arpc-requires c = is_given _ _ (arpc_given c.args.key _ _ _ (search rules) c.requires.0 c.requires.1 c.arpc.ensures)

pub returns : goal.returns
returns c =
    ap (λ (a : List ℕ). given_by c.args.d a (Ok c.in_ok-places.places)) (arpc_is c.args.key _ _ _ (search rules) c.requires.0 c.requires.1 c.arpc.ensures _ c.unwrap-arpc.ensures)
    ∙ right_new _ _ _ _ _ _ _ c.above_last.ensures (ap not c.if-not-above_last.false) _ _ c.keep.ensures c.in_ok-places.was
