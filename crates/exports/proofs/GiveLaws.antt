-- An answer given to a lent slice, test by test. Assumes nothing.
use mathlib.Core.Path.{◌≡◌, refl, sym, ap, ◌∙◌, subst}
use mathlib.Core.Bool.{Bool, true, false}
use mathlib.Core.List.{List}
use Prim.Native.Nat.{ℕ}
use borrow.Author.Tests.{eq-eqb, ne_eqb, eqb-true, eqb-false}
use lib.Dec.{eqb}
use lib.ListN.{length}
use Rattle.std.specs.Prelude.{Result, Ok, Err}
use Rattle.std.specs.Result.{result_unwrap_or}
use Rattle.answers.specs.declared.Refusal.{Refusal}
use Rattle.answers.specs.declared.Refusal.TheVariants.{Input}
use Rattle.answers.specs.Refusals.{number}
use Rattle.answers.specs.Answers.{number_told}
use Rattle.exports.specs.Lent.{number_of, bytes_after, Given}

module _ (n : ℕ) (a : Result (List ℕ) Refusal) (o : List ℕ) where
  pub given_length : (length o ≡ n → ⊥) → {r : ℕ} → r ≡ 1 → Given n a o r o
  unfolding number_of bytes_after
  given_length h e = record { number = e ∙ sym (simp (ne_eqb _ _ h)); slice = sym (simp (ne_eqb _ _ h)) }

  pub given_refused : length o ≡ n → (q : Refusal) → a ≡ Err q → {r : ℕ} → r ≡ number q → Given n a o r o
  unfolding number_of bytes_after
  given_refused h q e f = record {
    number = f ∙ sym (simp (eq-eqb _ _ h) (ap (λ (x : Result (List ℕ) Refusal). number_told x) e));
    slice = sym (simp (eq-eqb _ _ h) (ap (λ (x : Result (List ℕ) Refusal). result_unwrap_or x o) e));
  }

  pub given_yes : length o ≡ n → (x : List ℕ) → a ≡ Ok x → (z : List ℕ) → z ≡ x → Given n a o 0 z
  unfolding number_of bytes_after
  given_yes h x e z f = record {
    number = sym (simp (eq-eqb _ _ h) (ap (λ (y : Result (List ℕ) Refusal). number_told y) e));
    slice = f ∙ sym (simp (eq-eqb _ _ h) (ap (λ (y : Result (List ℕ) Refusal). result_unwrap_or y o) e));
  }

-- what is refused for its input leaves the slice, whatever its length
pub given_one : (n : ℕ) (o : List ℕ) {r : ℕ} → r ≡ 1 → Given n (Err Input) o r o
given_one n o {r} e = by (eqb (length o) n) refl
  where
    by : (t : Bool) → eqb (length o) n ≡ t → Given n (Err Input) o r o
    by true f = given_refused n (Err Input) o (eqb-true (length o) n f) Input refl e
    by false f = given_length n (Err Input) o (eqb-false (length o) n f) e

-- an answer that is another's
pub given_as : (n : ℕ) {a b : Result (List ℕ) Refusal} → a ≡ b → {o : List ℕ} {r : ℕ} {z : List ℕ} → Given n a o r z → Given n b o r z
given_as n e {o} {r} {z} g = subst (λ (x : Result (List ℕ) Refusal). Given n x o r z) e g
