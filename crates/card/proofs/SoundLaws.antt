-- Soundness, test by test. Assumes nothing.
use Prim.Native.Nat.{◌≤◌}
use mathlib.Core.Path.{◌≡◌, sym, ◌∙◌}
use mathlib.Core.Bool.{Bool, true, false, not, and-false}
use borrow.Author.Tests.{le-leb, not-true, not-false}
use Rattle.pin.specs.PinBlock.{pin_fits}
use Rattle.transaction.specs.Transaction.{pending_fits, rest_fits}
use Rattle.card.specs.declared.Card.{Card}
use Rattle.card.specs.Record.{full_tries, sound}

module _ (r : Card) (p : Bool) (e : p ≡ pin_fits 0 r.count r.pin) where
  pub sound_pin : not p ≡ true → false ≡ sound r
  unfolding sound
  sound_pin h = simp (sym e ∙ not-true p h)

  module _ (h : not p ≡ false) (n : r.tries ≤ full_tries) (q : Bool) (f : q ≡ pending_fits r.transaction.count r.transaction.pin) where
    pub sound_pending : not q ≡ true → false ≡ sound r
    unfolding sound
    sound_pending k = simp (sym f ∙ not-true q k, and-false)

    pub sound_rest : not q ≡ false → (t : Bool) → t ≡ rest_fits r.transaction → t ≡ sound r
    unfolding sound
    sound_rest k t g = simp (sym e ∙ not-false p h, le-leb r.tries full_tries n, sym f ∙ not-false q k, g)
