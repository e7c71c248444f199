-- `parts::mac_out` meets its contract: the inner hash and the outer. Assumes nothing.
use Rattle.parts.proofs.LayLaws.{Sized, mac_laid}
use borrow.Author.Rules.{rules}
use Rattle.parts.proofs.mac_out.Goals as goal

pub returns : goal.returns
returns c = let a = c.args in
    let i : Sized a.s.inner =
    record {
      hs = search (rules, c.well_formed.0.1.1.0);
      ns = search (rules, c.well_formed.0.1.1.0);
      sums = search (rules, c.well_formed.0.1.1.0);
      block = search (rules, c.well_formed.0.1.1.0);
    } in
    let o : Sized a.s.outer =
    record {
      hs = search (rules, c.well_formed.0.1.1.1.0);
      ns = search (rules, c.well_formed.0.1.1.1.0);
      sums = search (rules, c.well_formed.0.1.1.1.0);
      block = search (rules, c.well_formed.0.1.1.1.0);
    } in
    mac_laid a.b.now a.s c.requires i o c.lay_hash.ensures c.lay_hash-2.ensures
