-- `parts::lay_core` meets its contract: three blocks, one after the other. Assumes nothing.
use mathlib.Core.Path.{◌≡◌}
use lib.ListN.{length}
use Rattle.parts.proofs.LayLaws.{core_laid}
use borrow.Author.Rules.{rules}
use Rattle.parts.proofs.lay_core.Goals as goal

pub returns : goal.returns
returns c = let a = c.args in
    let x = c.bytes_of in
    let y = c.bytes_of-2 in
    let z = c.bytes_of-3 in
    let lx : length x.result ≡ 64 = search (rules, x.type_inv) in
    let ly : length y.result ≡ 64 = search (rules, y.type_inv) in
    let lz : length z.result ≡ 64 = search (rules, z.type_inv) in
    core_laid a.b.now a.p a.c c.requires lx ly lz x.ensures y.ensures z.ensures c.lay.ensures c.lay-2.ensures c.lay-3.ensures
