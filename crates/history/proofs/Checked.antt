-- When a PIN check is answered what. Assumes nothing.
use Prim.Native.Nat.{ℕ}
use mathlib.Core.Path.{◌≡◌, refl, subst}
use mathlib.Core.Bool.{Bool, true, false, and-false}
use mathlib.Core.List.{List}
use lib.Dec.{eqb}
use borrow.Author.Tests.{eq-eqb, ne_eqb}
use Rattle.std.specs.Prelude.{Ok}
use Rattle.octets.specs.Same.{same}
use Rattle.octets.proofs.SameLaws.{same_refl, same_true}
use Rattle.pin.specs.declared.Pin.{Pin}
use Rattle.card.specs.declared.Card.{Card}
use Rattle.card.specs.Keys.{smc_key}
use Rattle.card.specs.Calls.{CheckPin, is_kept, judged_under, due_under, step}
use Rattle.history.specs.Demand2.{block_read, Tried, Checked, ChecksExactly}

-- PINs that differ are not the same
differing : (p q : List ℕ) → (p ≡ q → ⊥) → same p q ≡ false
differing p q n = go (same p q) refl
  where
    go : (b : Bool) → same p q ≡ b → same p q ≡ false
    go true e = absurd (n (same_true p q e))
    go false e = e

module _ (r : Card) (b : List ℕ) where
  others : (p : Pin) → is_kept r (Ok p) ≡ false → Tried r b → block_read r b ≡ Ok p → (step r (CheckPin b)).code ≡ 14
  unfolding judged_under due_under smc_key
  others p k t c =
      rw (t.presented.sound, t.presented.phase, eq-eqb _ _ t.presented.eight, ne_eqb _ _ t.tries, ne_eqb _ _ t.counter, c, k)

  checked : Checked r b
  unfolding judged_under due_under smc_key
  checked =
      record {
        unsound = λ s. rw s;
        idle = λ s o. rw (s, o);
        other_length = λ s o l. rw (s, o, ne_eqb _ _ l);
        no_tries = λ p n. rw (p.sound, p.phase, eq-eqb _ _ p.eight, eq-eqb _ _ n);
        full = λ p n d. rw (p.sound, p.phase, eq-eqb _ _ p.eight, ne_eqb _ _ n, eq-eqb _ _ d);
        misread = λ t c. rw (t.presented.sound, t.presented.phase, eq-eqb _ _ t.presented.eight, ne_eqb _ _ t.tries, ne_eqb _ _ t.counter, c);
        wrong_count = λ p t c n. others p (rw (ne_eqb _ _ n)) t c;
        wrong_digits = λ p t c n. others p (rw (differing _ _ n) (and-false (eqb p.count r.count))) t c;
        right = λ p t c n d.
            let k : is_kept r (Ok p) ≡ true = rw (eq-eqb _ _ n) (subst (λ (q : List ℕ). same p.digits q ≡ true) d (same_refl p.digits)) in
            rw (t.presented.sound, t.presented.phase, eq-eqb _ _ t.presented.eight, ne_eqb _ _ t.tries, ne_eqb _ _ t.counter, c, k);
      }

pub checks_exactly : ChecksExactly
checks_exactly = checked
