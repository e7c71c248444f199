use Prim.Native.Nat.{◌<◌, ◌≤◌}
use Rattle.std.proofs.lemmas.Iterator.{cases_from_all, YieldsList-from_slice}
use Rattle.octets.specs.Digits.{hex_value}
use Rattle.lines.proofs.LineLaws.{legible_by}
use borrow.Author.Rules.{rules}
use borrow.Author.Tests.{tests}
use Rattle.lines.proofs.is_legible.Goals as goal

pub returns : goal.returns
returns c =
    legible_by c.args.text.now c.all.result
    (cases_from_all _ _ _ (λ x. hex_value x < 16) (λ x. 16 ≤ hex_value x) c.all.ensures.ran (YieldsList-from_slice c.args.text.now cc)
    (λ x q k. search (rules, tests)) (λ x q k. search (rules, tests)))
