-- `parts::lay_hash` meets its contract: the words, the buffer, the fill and the total. Assumes nothing.
use mathlib.Core.Path.{◌≡◌}
use lib.ListN.{length}
use Rattle.parts.proofs.LayLaws.{Sized, hash_laid}
use borrow.Author.Rules.{rules}
use Rattle.parts.proofs.lay_hash.Goals as goal

pub lay-requires : goal.lay-requires
lay-requires c = let h : length c.args.s.buffer ≡ 64 = search (rules, c.well_formed) in
    search rules

pub returns : goal.returns
returns c = let a = c.args in
    let k : Sized a.s =
    record {
      hs = search (rules, c.well_formed);
      ns = search (rules, c.well_formed);
      sums = search (rules, c.well_formed);
      block = search (rules, c.well_formed);
    } in
    hash_laid a.b.now a.p a.s c.requires k c.lay_core.ensures c.lay.ensures c.lay_end.ensures
