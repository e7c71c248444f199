use Rattle.std.proofs.Common.{◌≡◌, length, rules, ap, ap₂, sym, ◌∙◌}
use mathlib.Core.Logic.{inl, inr}
use Rattle.octets.specs.Same.{same}
use Rattle.octets.proofs.SameLaws.{same_length, same_turn, same_end}
use Rattle.octets.proofs.same.Goals as goal

pub returns-then-a-b : goal.returns-then-a-b
returns-then-a-b c = search same_length

pub loop-x-init : goal.loop-x-init
loop-x-init c =
    let p : c.into_iter-x-iterator.result.a.rest.now ≡ c.args.a.now = search rules in
    let q : c.into_iter-x-iterator.result.b.rest.now ≡ c.args.b.now = search rules in
    (ap length p ∙ c.if-a-b.false ∙ sym (ap length q), ap₂ same p q)

pub loop-x-preserved : goal.loop-x-preserved
loop-x-preserved c = let h = c.in-Some.ensures.steps in same_turn _ _ _ _ _ _ _ _ h.0 h.1 c.loop-x.invariant

pub returns : goal.returns
returns c = same_end _ _ _ _ c.loop-x.invariant (elim c.in-None.ensures.steps [ inl w ↦ inl w.1.0 | inr w ↦ inr w.1.0 ])
