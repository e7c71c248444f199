use mathlib.Core.Path.{◌≡◌, sym, ap, ◌∙◌}
use Prim.Native.Nat.{ℕ, ◌-◌, ◌<◌}
use native.Mathlib.Omega.{arith}
use borrow.Author.Rules.{rules}
use Rattle.answers.specs.declared.Refusal.{Refusal}
use mathlib.Core.List.{List}
use Rattle.std.specs.Prelude.{Result}
use Rattle.std.specs.Result.{is_err}
use Rattle.cards.specs.Cards.{all_fit}
use Rattle.cards.proofs.CardLaws.{fit_turn, fit_not, fit_end}
use Rattle.cards.proofs.all_fit.Goals as goal

pub loop-i-init : goal.loop-i-init
loop-i-init c = let a = c.args in
    let e : a.n - 0 ≡ a.n = omega arith in
    ap (λ (k : ℕ). all_fit k a.cards.now) e

pub returns-then-is_err : goal.returns-then-is_err
returns-then-is_err c = let l = c.loop-i in
    let a = c.args in
    let h : l.i < a.n = search rules in
    fit_not a.cards.now a.n l.i h (ap (λ (r : Result (List ℕ) Refusal). is_err r) (sym c.seed_at.ensures) ∙ sym c.is_err.ensures.value ∙ c.if-is_err.true) ∙ l.invariant

pub loop-i-preserved : goal.loop-i-preserved
loop-i-preserved c = let l = c.loop-i in
    let a = c.args in
    let h : l.i < a.n = search rules in
    fit_turn a.cards.now a.n l.i h (ap (λ (r : Result (List ℕ) Refusal). is_err r) (sym c.seed_at.ensures) ∙ sym c.is_err.ensures.value ∙ c.if-is_err.false) ∙ l.invariant

pub returns : goal.returns
returns c = let l = c.loop-i in
    let a = c.args in
    fit_end a.cards.now a.n l.i (omega arith) ∙ l.invariant
