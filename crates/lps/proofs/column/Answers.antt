use Prim.Native.Nat.{◌<◌}
use native.Mathlib.Omega.{arith}
use borrow.Author.Rules.{rules}
use Rattle.lps.proofs.Columns.{upto_start, upto_turn, upto_end}
use Rattle.lps.proofs.column.Goals as goal

pub loop-j-init : goal.loop-j-init
loop-j-init c = let a = c.args in
    upto_start a.x.now a.u.now a.v.now a.w.now a.k c.requires.0

pub byte-requires : goal.byte-requires
byte-requires c = let pre = c.requires in
    (c.loop-j.invariant.long, pre.1, pre.2, omega arith)

pub loop-j-preserved : goal.loop-j-preserved
loop-j-preserved c = let l = c.loop-j in
    let a = c.args in
    let b = c.byte in
    let h : l.j < 8 = search rules in
    upto_turn a.x.now a.u.now a.v.now a.w.now a.k l.x b.new.x l.r l.j b.result c.word-r.result h l.invariant b.ensures.0
    b.ensures.1 b.ensures.2 c.word-r.ensures

pub returns : goal.returns
returns c = let l = c.loop-j in
    let a = c.args in
    upto_end a.x.now a.u.now a.v.now a.w.now a.k l.x l.r l.j (omega arith) l.invariant
