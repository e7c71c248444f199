-- `parts::hash_out` meets its contract: the slice is written whole. Assumes nothing.
use Rattle.parts.proofs.LayLaws.{Sized, hash_whole}
use borrow.Author.Rules.{rules}
use Rattle.parts.proofs.hash_out.Goals as goal

pub returns : goal.returns
returns c = let a = c.args in
    let k : Sized a.s =
    record {
      hs = search (rules, c.well_formed);
      ns = search (rules, c.well_formed);
      sums = search (rules, c.well_formed);
      block = search (rules, c.well_formed);
    } in
    hash_whole a.b.now a.s c.requires k c.lay_hash.ensures
