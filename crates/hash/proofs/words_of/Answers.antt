use mathlib.Core.Path.{◌≡◌, ap, ◌∙◌}
use native.Mathlib.Omega.{arith}
use lib.ListN.{length}
use lib.Seq.{take_all}
use Rattle.lps.specs.Vectors.{words}
use borrow.Author.Rules.{rules}
use Rattle.hash.proofs.words_of.Goals as goal

pub returns : goal.returns
returns c = let b = c.args.b in
    let n : length b ≡ 64 = search rules in
    c.load.ensures ∙ ap words (take_all 64 b (omega arith))
