use mathlib.Core.Path.{sym, ap, ◌∙◌}
use Rattle.std.specs.Prelude.{Option, Ok}
use Rattle.templates.specs.declared.Fault.{Fault}
use Rattle.templates.specs.declared.Read.{Read}
use Rattle.exports.specs.Lent.{fault_place}
use Rattle.exports.proofs.GiveLaws.{given_as}
use Rattle.exports.proofs.box_templates_fault.Goals as goal

pub returns-in-Some : goal.returns-in-Some
returns-in-Some c =
    given_as 4
    (ap Ok c.lay_place.ensures ∙ ap (λ (x : Option Fault). fault_place x) (sym c.in-Some.is) ∙ ap (λ (x : Read). fault_place x.fault) c.read_templates.ensures)
    c.give.ensures

pub returns-in-None : goal.returns-in-None
returns-in-None c =
    given_as 4
    (ap (λ (x : Option Fault). fault_place x) (sym c.in-None.is) ∙ ap (λ (x : Read). fault_place x.fault) c.read_templates.ensures)
    c.give-in-None.ensures
