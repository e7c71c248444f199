use mathlib.Core.Path.{sym, ◌∙◌}
use borrow.Author.Tests.{eq-eqb, ne_eqb}
use Rattle.trace.proofs.left.Goals as goal

pub returns-then-octet_of-eq0 : goal.returns-then-octet_of-eq0
returns-then-octet_of-eq0 c = rw (eq-eqb _ _ (sym c.octet_of.ensures ∙ c.if-octet_of-eq0.true))

pub returns-else-octet_of-eq0 : goal.returns-else-octet_of-eq0
returns-else-octet_of-eq0 c = rw (ne_eqb _ _ (λ e. c.if-octet_of-eq0.false (c.octet_of.ensures ∙ e)))
