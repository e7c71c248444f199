use mathlib.Core.Path.{sym, ap, ◌∙◌}
use Rattle.std.specs.Prelude.{Option, Ok}
use Rattle.templates.specs.declared.Fault.{Fault}
use Rattle.templates.specs.declared.Read.{Read}
use Rattle.templates.specs.Lent.{laid_objects}
use Rattle.exports.specs.Lent.{unless}
use Rattle.exports.proofs.GiveLaws.{given_as}
use Rattle.exports.proofs.box_read_templates.Goals as goal

pub returns-in-None : goal.returns-in-None
returns-in-None c = let r = c.read_templates-r in
    given_as 320
    (ap Ok c.lay_objects.ensures
    ∙ ap (λ (x : Option Fault). unless x (laid_objects r.result.objects)) (sym c.in-None.is)
    ∙ ap (λ (x : Read). unless x.fault (laid_objects x.objects)) r.ensures)
    c.give.ensures

pub returns-in-Some : goal.returns-in-Some
returns-in-Some c = let r = c.read_templates-r in
    given_as 320
    (ap (λ (x : Option Fault). unless x (laid_objects r.result.objects)) (sym c.in-Some.is)
    ∙ ap (λ (x : Read). unless x.fault (laid_objects x.objects)) r.ensures)
    c.give-in-Some.ensures
