-- What the entry points answer, test by test. Assumes nothing.
use mathlib.Core.Path.{◌≡◌, refl, sym, ap, ◌∙◌}
use mathlib.Core.Bool.{Bool, true, false, cond, and-false}
use mathlib.Core.List.{List}
use Prim.Native.Nat.{ℕ, ◌%◌}
use borrow.Author.Tests.{eq-eqb, ne_eqb, eqb-true, eqb-false}
use lib.Dec.{eqb}
use lib.ListN.{length}
use Rattle.std.specs.Prelude.{Result, Ok, Err}
use Rattle.std.specs.Result.{IsErrAnd}
use Rattle.std.proofs.lemmas.Result.{err_from_is_err_and}
use Rattle.octets.specs.Lengths.{key_fits}
use Rattle.gost.specs.Gost.{subkeys}
use Rattle.answers.specs.declared.Refusal.{Refusal}
use Rattle.answers.specs.declared.Refusal.TheVariants.{Input}
use Rattle.answers.specs.Answers.{exactly}
use Rattle.cipher.specs.Code.{code_of}
use Rattle.cipher.specs.Answers.{block_fits, string_fits, block_answer, coded_with, coded}

-- what is lent has the length asked for, or the caller's `?` answers 1
pub exact : (n : ℕ) (l x : List ℕ) {r : Result (List ℕ) Refusal} → r ≡ exactly n l → r ≡ Ok x → (length l ≡ n) × (x ≡ l)
exact n l x e f = go (eqb (length l) n) refl (sym f ∙ e)
  where
    go : (t : Bool) → eqb (length l) n ≡ t → Ok x ≡ cond {A = Result (List ℕ) Refusal} t (Ok l) (Err Input) → (length l ≡ n) × (x ≡ l)
    go true f h = (eqb-true (length l) n f, cc)
    go false f h = absurd cc

pub not_exact : (n : ℕ) (l : List ℕ) (q : Refusal) {r : Result (List ℕ) Refusal} → r ≡ exactly n l → r ≡ Err q
    → {B : Type 0} (s : Result B Refusal) → IsErrAnd s (λ e. e ≡ q) → (length l ≡ n → ⊥) × (s ≡ Err Input)
not_exact n l q e f {B} s h = go (eqb (length l) n) refl (sym f ∙ e)
  where
    go : (t : Bool) → eqb (length l) n ≡ t → Err q ≡ cond {A = Result (List ℕ) Refusal} t (Ok l) (Err Input) → (length l ≡ n → ⊥) × (s ≡ Err Input)
    go true f h = absurd cc
    go false f i = (eqb-false (length l) n f, (let p = err_from_is_err_and s h in let k : q ≡ Input = cc in p.1 ∙ ap Err (p.2 ∙ k)))

module _ (key b x : List ℕ) where
  pub no_key : (length key ≡ 32 → ⊥) → Err Input ≡ block_answer key b x
  unfolding block_answer key_fits
  no_key h = simp (ne_eqb _ _ h)

  pub no_block_lem : (length b ≡ 8 → ⊥) → Err Input ≡ block_answer key b x
  unfolding block_answer block_fits
  no_block_lem h = simp (ne_eqb _ _ h, and-false)

  pub fits : length key ≡ 32 → length b ≡ 8 → Ok x ≡ block_answer key b x
  unfolding block_answer key_fits block_fits
  fits h l = simp (eq-eqb _ _ h, eq-eqb _ _ l)

module _ (ks s : List ℕ) where
  pub no_octets : length s ≡ 0 → Err Input ≡ coded_with ks s
  unfolding coded_with string_fits
  no_octets h = simp (eq-eqb _ _ h)

  pub no_whole : (length s % 8 ≡ 0 → ⊥) → Err Input ≡ coded_with ks s
  unfolding coded_with string_fits
  no_whole h = simp (ne_eqb _ _ h, and-false)

  pub string_fits_lem : (length s ≡ 0 → ⊥) → length s % 8 ≡ 0 → Ok (code_of ks s) ≡ coded_with ks s
  unfolding coded_with string_fits
  string_fits_lem h l = simp (ne_eqb _ _ h, eq-eqb _ _ l)

module _ (key s : List ℕ) where
  pub no_code_key : (length key ≡ 32 → ⊥) → Err Input ≡ coded key s
  unfolding coded key_fits
  no_code_key h = simp (ne_eqb _ _ h)

  pub code_key : length key ≡ 32 → coded_with (subkeys 8 key) s ≡ coded key s
  unfolding coded key_fits
  code_key h = simp (eq-eqb _ _ h)
