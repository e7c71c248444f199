use mathlib.Core.Path.{sym, subst}
use Prim.Native.Nat.{ℕ, ◌<◌}
use native.Mathlib.Omega.{arith}
use borrow.Author.Rules.{rules}
use Rattle.lps.specs.Vectors.{X}
use Rattle.lps.specs.Inner.{first_word, Skipped}
use Rattle.lps.proofs.Columns.{Made, first_fits, made_start, made_next, made_done, rest_of, rest_eight, length_X}
use Rattle.lps.proofs.turn_from.Goals as goal

pub loop-k-init : goal.loop-k-init
loop-k-init c = let third = c.bytes_of-w in
    let second = c.bytes_of-v in
    let first = c.bytes_of-u in
    let x = c.spread-x in
    let a = c.args in
    let s = a.s.now in
    let b = a.b.now in
    let t = first_word a.upper in
    let z = c.skip-k.new.x in
    let e = c.skip-k.ensures.0 in (
      subst (λ (k : ℕ). Made t s (X s b) (length_X s b) s z k) (sym e)
          (made_start t s (X s b) (length_X s b) x.result z (first_fits a.upper) x.ensures
          (subst (λ (k : ℕ). Skipped k x.result z) e c.skip-k.ensures.1)),
      rest_of t s b first.result second.result third.result first.ensures second.ensures third.ensures,
    )

pub column-requires : goal.column-requires
column-requires c = let l = c.loop-k in
    (l.invariant.0.long, rest_eight _ _ _ _ _ _ _ l.invariant.1, omega arith)

pub loop-k-preserved : goal.loop-k-preserved
loop-k-preserved c = let l = c.loop-k in
    let third = c.bytes_of-w in
    let second = c.bytes_of-v in
    let first = c.bytes_of-u in
    let a = c.args in
    let s = a.s.now in
    let b = a.b.now in
    let h : l.k < 8 = search rules in (
      made_next (first_word a.upper) s (X s b) (length_X s b) first.result second.result third.result l.s l.x c.column.new.x l.k c.column.result h
          l.invariant.1 l.invariant.0 c.column.ensures.0 c.column.ensures.1,
      l.invariant.1,
    )

pub returns : goal.returns
returns c = let l = c.loop-k in
    let a = c.args in
    made_done (first_word a.upper) a.s.now (X a.s.now a.b.now) (length_X a.s.now a.b.now) l.s l.x l.k (omega arith) l.invariant.0
