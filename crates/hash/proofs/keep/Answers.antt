use mathlib.Core.Path.{◌≡◌}
use lib.ListN.{length}
use Rattle.hash.proofs.AheadLaws.{ahead_laid}
use borrow.Author.Rules.{rules}
use Rattle.hash.proofs.keep.Goals as goal

pub returns : goal.returns
returns c = let a = c.args.c in
    let h : length a.h ≡ 8 = search (rules, c.well_formed) in
    let n : length a.n ≡ 8 = search (rules, c.well_formed) in
    let s : length a.sigma ≡ 8 = search (rules, c.well_formed) in
    ahead_laid a (h, n, s) _ _ _ _ _ c.round_keys.ensures c.lay.ensures c.lay-2.ensures
    c.lay-3.ensures c.lay-4.ensures
