use mathlib.Core.Path.{◌≡◌, ap, ◌∙◌}
use Rattle.cipher.specs.Code.{code_of}
use Rattle.cryptogram.specs.Cryptogram.{twice, double_code}
use Rattle.cryptogram.proofs.AnswerLaws.{coded_string}
use borrow.Author.Rules.{rules}
use Rattle.cryptogram.proofs.double_code.Goals as goal

pub unwrap-requires : goal.unwrap-requires
unwrap-requires c = rw (c.code_with.ensures ∙ coded_string c.args.k c.args.s (search rules))

pub returns : goal.returns
unfolding double_code
returns c =
    let e = c.code_with.ensures ∙ coded_string c.args.k c.args.s (search rules) in
    let f : c.unwrap.result ≡ code_of c.args.k c.args.s = cc in
    c.twice.ensures ∙ ap twice f
