-- `parts::code_out` meets its contract: the key, N1 and N2, the buffer, the fill and the total. Assumes nothing.
use mathlib.Core.Path.{◌≡◌}
use lib.ListN.{length}
use Rattle.parts.proofs.LayLaws.{code_laid}
use borrow.Author.Rules.{rules}
use Rattle.parts.proofs.code_out.Goals as goal

pub lay-requires : goal.lay-requires
lay-requires c = let h : length c.args.s.buffer ≡ 8 = search (rules, c.well_formed) in
    search rules

pub returns : goal.returns
returns c = let a = c.args in
    let k : length a.s.subkeys ≡ 8 = search (rules, c.well_formed) in
    let n : length a.s.buffer ≡ 8 = search (rules, c.well_formed) in
    code_laid a.b.now a.s c.requires k n c.lay_subkeys.ensures c.lay_halves.ensures c.lay.ensures c.lay_end.ensures
