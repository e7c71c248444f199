use mathlib.Core.Path.{◌≡◌, sym, ap, ◌∙◌}
use mathlib.Core.List.{List}
use Prim.Native.Nat.{ℕ, ◌*◌, ◌/◌}
use native.Mathlib.Omega.{arith}
use borrow.Author.Tests.{not-true, not-false}
use lib.ListN.{length}
use Rattle.derive.specs.Kept.{kept_words}
use Rattle.derive.proofs.Laws.{key_of_fits}
use Rattle.cards.specs.Inner.{keys_by}
use Rattle.cards.proofs.CardLaws.{no_key, no_cards, no_place, no_card, all_keys}
use mathlib.Core.Bool.{not}
use Rattle.cards.proofs.card_keys.Goals.{then-issuer-ne32-via-then-issuer-ne32, then-issuer-ne32-via-else-issuer-ne32+then-cards-ne0, then-issuer-ne32-via-else-issuer-ne32+else-cards-ne0+then-out-ne0, then-issuer-ne32-via-else-issuer-ne32+else-cards-ne0+else-out-ne0+then-out-n}
use Rattle.cards.proofs.card_keys.Goals as goal

pub returns-then-issuer-ne32 : goal.returns-then-issuer-ne32
returns-then-issuer-ne32 c = let a = c.args in
    elim c.then-issuer-ne32.branch [
      | then-issuer-ne32-via-then-issuer-ne32 w ↦ no_key _ _ _ w.if-issuer-ne32.true
      | then-issuer-ne32-via-else-issuer-ne32+then-cards-ne0 w ↦ no_cards _ _ _ w.if-cards-ne0.true
      | then-issuer-ne32-via-else-issuer-ne32+else-cards-ne0+then-out-ne0 w ↦ no_place a.issuer.now a.cards.now a.out.now (λ e. omega (arith, e))
      | then-issuer-ne32-via-else-issuer-ne32+else-cards-ne0+else-out-ne0+then-out-n w ↦ no_place a.issuer.now a.cards.now a.out.now (λ e. omega (arith, e))
    ]

pub returns-then-not-all_fit : goal.returns-then-not-all_fit
returns-then-not-all_fit c = let a = c.args in
    let l : length a.out.now ≡ 32 * (length a.cards.now / 21) = omega arith in
    no_card a.issuer.now a.cards.now a.out.now c.if-issuer-ne32.false c.if-cards-ne0.false l
    (sym c.all_fit.ensures ∙ not-true _ (ap not c.if-not-all_fit.true))

pub returns : goal.returns
returns c = let k = c.key_of in
    let a = c.args in
    let key = a.issuer.now in
    let cards = a.cards.now in
    let l : length a.out.now ≡ 32 * (length cards / 21) = omega arith in
    all_keys key cards a.out.now c.if-issuer-ne32.false c.if-cards-ne0.false l
    (sym c.all_fit.ensures ∙ not-false _ (ap not c.if-not-all_fit.false)) _
    (c.put_keys.ensures
    ∙ ap (λ (ws : List ℕ). keys_by ws (length cards / 21) cards)
    (c.keep.ensures ∙ ap kept_words (k.ensures ∙ key_of_fits key c.if-issuer-ne32.false)))
