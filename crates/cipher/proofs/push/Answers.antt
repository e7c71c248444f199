use mathlib.Core.Path.{◌≡◌, ap, ◌∙◌}
use mathlib.Core.List.{◌++◌}
use native.Mathlib.Omega.{arith}
use lib.ListN.{length, length-set}
use Rattle.gost.specs.declared.Halves.{Halves}
use Rattle.gost.specs.Gost.{rounds}
use Rattle.cipher.specs.Code.{added}
use Rattle.cipher.proofs.CodingLaws.{push_more, push_full}
use borrow.Author.Rules.{rules}
use Rattle.cipher.proofs.push.Goals as goal

pub returns-then-s-lt7 : goal.returns-then-s-lt7
returns-then-s-lt7 c = let b : length c.args.s.buffer ≡ 8 = search (rules, c.well_formed) in
    push_more c.args.s c.args.b (search rules) b c.if-s-lt7.true

pub halves_of-requires : goal.halves_of-requires
halves_of-requires c = let b : length c.args.s.buffer ≡ 8 = search (rules, c.well_formed) in
    simp length-set (omega arith)

pub returns : goal.returns
returns c = let b : length c.args.s.buffer ≡ 8 = search (rules, c.well_formed) in
    push_full c.args.s c.args.b (search rules) b c.if-s-lt7.false _
    (c.absorb.ensures
    ∙ ap (λ (x : Halves). rounds (c.args.s.subkeys ++ c.args.s.subkeys) (added c.args.s.halves x)) c.halves_of.ensures)
