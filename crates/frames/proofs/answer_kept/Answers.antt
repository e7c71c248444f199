use Rattle.frames.proofs.FrameLaws.{answer_long, answer_foreign}
use mathlib.Core.Path.{sym, ◌∙◌}
use borrow.Author.Tests.{not-false}
use lib.Seq.{length-take-le}
use borrow.Author.Rules.{rules}
use mathlib.Core.Bool.{not}
use mathlib.Core.Path.{ap}
use Rattle.frames.proofs.answer_kept.Goals as goal

pub returns-then-n-gt-LONGEST : goal.returns-then-n-gt-LONGEST
returns-then-n-gt-LONGEST c = search (rules, answer_long)

pub slice_bounds-text-end : goal.slice_bounds-text-end
slice_bounds-text-end c = sym (length-take-le c.args.n c.args.line (search rules))

pub returns-then-not-is_hexadecimal : goal.returns-then-not-is_hexadecimal
returns-then-not-is_hexadecimal c = search answer_foreign

pub read-requires : goal.read-requires
read-requires c = (rw (length-take-le c.args.n c.args.line (search rules)) (search rules), sym c.is_hexadecimal.ensures ∙ not-false _ (ap not c.if-not-is_hexadecimal.false))
