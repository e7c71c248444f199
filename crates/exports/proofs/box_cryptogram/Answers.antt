use mathlib.Core.Path.{◌≡◌, refl, sym, ap, ◌∙◌}
use Rattle.std.specs.Prelude.{Option, Some, None}
use Rattle.cryptogram.specs.declared.Kind.{Kind}
use Rattle.cryptogram.specs.Answers.{kind_of}
use Rattle.exports.specs.Lent.{by_number}
use Rattle.exports.proofs.GiveLaws.{given_as, given_one}
use Rattle.exports.proofs.box_cryptogram.Goals as goal

-- what is not some is none
none : (r : Option Kind) → ((k : Kind) → r ≡ Some k → ⊥) → r ≡ None
none (Some k) f = absurd (f k refl)
none None f = refl

pub returns-in_default : goal.returns-in_default
unfolding by_number
returns-in_default c =
    let x = c.args in
    let e : kind_of x.kind ≡ None = sym c.kind_of.ensures.is ∙ none _ c.in_default.not-Some in
    given_as 8 (ap (λ (k : Option Kind). by_number x.key.now k x.counter x.d.now) (sym e)) (given_one 8 x.out.now c.number.ensures)

pub returns : goal.returns
unfolding by_number
returns c =
    let x = c.args in
    given_as 8 (c.cryptogram.ensures ∙ ap (λ (k : Option Kind). by_number x.key.now k x.counter x.d.now) c.in-Some.ensures.is) c.give.ensures
