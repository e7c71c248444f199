use borrow.Author.Rules.{rules}
use borrow.Author.Tests.{tests}
use mathlib.Core.Path.{sym, ◌∙◌}
use Rattle.lines.proofs.LineLaws.{hexadecimal_signs, hexadecimal_odd, hexadecimal_empty}
use Rattle.lines.proofs.is_hexadecimal.Goals.{then-not-is_empty, else-not-is_empty}
use Rattle.lines.proofs.is_hexadecimal.Goals as goal

pub returns-then-text-eq0 : goal.returns-then-text-eq0
returns-then-text-eq0 c = elim c.if-not-is_empty.branch [ then-not-is_empty w ↦ hexadecimal_signs _ _ _ (sym c.is_empty.ensures ∙ w.if-not-is_empty.true) w.value-is c.if-text-eq0.true c.is_legible.ensures | else-not-is_empty w ↦ search (rules, tests) ]

pub returns-else-text-eq0 : goal.returns-else-text-eq0
returns-else-text-eq0 c = elim c.if-not-is_empty.branch [ then-not-is_empty w ↦ hexadecimal_odd _ _ (sym c.is_empty.ensures ∙ w.if-not-is_empty.true) w.value-is c.if-text-eq0.false | else-not-is_empty w ↦ hexadecimal_empty _ _ (sym c.is_empty.ensures ∙ w.if-not-is_empty.false) c.if-text-eq0.false ]
