use mathlib.Core.Path.{sym, ap, ◌∙◌}
use native.Mathlib.Omega.{arith}
use Rattle.std.specs.Prelude.{Ok}
use Rattle.cipher.proofs.CodingLaws.{length_held_of, end_none, end_left, end_whole}
use borrow.Author.Rules.{rules}
use Rattle.cipher.proofs.code_end.Goals.{then-s-lt8-via-then-s-lt8, then-s-lt8-via-else-s-lt8+then-s-ne0}
use Rattle.cipher.proofs.code_end.Goals as goal

pub returns-then-s-lt8 : goal.returns-then-s-lt8
returns-then-s-lt8 c =
    let s = c.args.s in
    elim c.then-s-lt8.branch [
      | then-s-lt8-via-then-s-lt8 w ↦ end_none s (omega arith)
      | then-s-lt8-via-else-s-lt8+then-s-ne0 w ↦ end_left s (λ e. w.if-s-ne0.true (sym (length_held_of s (search (rules, c.well_formed))) ∙ e))
    ]

pub returns : goal.returns
returns c = let s = c.args.s in ap Ok c.word_octets.ensures ∙ end_whole s (omega arith) (length_held_of s (search (rules, c.well_formed)) ∙ c.if-s-ne0.false)
