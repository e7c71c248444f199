use mathlib.Core.Path.{◌≡◌}
use lib.ListN.{length}
use Rattle.derive.proofs.Laws.{string_made}
use borrow.Author.Rules.{rules}
use Rattle.derive.proofs.string.Goals as goal

pub returns : goal.returns
returns c = let l : length c.args.label ≡ 4 = search (rules, c.well_formed) in
    let n : length c.args.seed ≡ 8 = search (rules, c.well_formed) in
    string_made c.args.label c.args.seed l n
