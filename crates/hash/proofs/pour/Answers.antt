use mathlib.Core.Path.{◌≡◌, refl}
use native.Mathlib.Omega.{arith}
use lib.ListN.{length}
use Rattle.hash.proofs.PourLaws.{poured_short, poured_long}
use borrow.Author.Rules.{rules}
use Rattle.hash.proofs.pour.Goals as goal

pub put-kept-requires : goal.put-kept-requires
put-kept-requires c = let b : length c.args.s.buffer ≡ 64 = search (rules, c.well_formed) in
    (omega arith, omega arith)

pub returns-then-m-need : goal.returns-then-m-need
returns-then-m-need c = let a = c.args in
    let b : length a.s.buffer ≡ 64 = search (rules, c.well_formed) in
    poured_short a.s a.m.now c.put-kept.result b c.put-kept.ensures c.put-b.result (omega arith) c.put-b.ensures

pub returns : goal.returns
returns c = let a = c.args in
    let b : length a.s.buffer ≡ 64 = search (rules, c.well_formed) in
    let p = c.put-kept in
    let full = c.put-full in
    let load = c.load in
    let one = c.advance-core1 in
    let all = c.absorb-core2 in
    poured_long a.s a.m.now p.result b p.ensures _ _ refl (omega (arith, c.if-m-need.false)) refl
    full.result load.result c.put-b-2.result one.result all.result
    full.ensures load.ensures one.ensures all.ensures c.put-b-2.ensures
