use mathlib.Core.Path.{◌≡◌}
use native.Mathlib.Omega.{arith}
use lib.ListN.{length}
use Rattle.cipher.proofs.CodingLaws.{push_start, push_ready, push_turn, push_end}
use borrow.Author.Rules.{rules}
use Rattle.cipher.proofs.push_all.Goals as goal

pub loop-b-init : goal.loop-b-init
loop-b-init c = let b : length c.args.s.buffer ≡ 8 = search (rules, c.well_formed) in
    push_start c.args.s (search rules) b

pub push-t-requires : goal.push-t-requires
push-t-requires c = let l = c.loop-b in
    push_ready _ c.args.m.now l.b-index _ l.invariant

pub loop-b-preserved : goal.loop-b-preserved
loop-b-preserved c = let l = c.loop-b in
    let m = c.args.m.now in
    push_turn _ m l.b-index _ l.invariant _ (omega arith) c.push-t.ensures

pub returns : goal.returns
returns c = let l = c.loop-b in
    let m = c.args.m.now in
    push_end _ m l.b-index _ l.invariant (omega arith)
