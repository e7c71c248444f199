-- The ways out of the functions over lent states, over any form and way. Assumes nothing.
use mathlib.Core.Path.{◌≡◌, refl, sym, ap, ◌∙◌}
use mathlib.Core.Bool.{Bool, true, false, cond}
use mathlib.Core.Logic.{◌⊎◌, inl, inr}
use mathlib.Core.List.{List}
use Prim.Native.Nat.{ℕ}
use borrow.Author.Tests.{eq-eqb, ne_eqb}
use lib.ListN.{length}
use Rattle.std.specs.Prelude.{Result, Ok, Err}
use Rattle.std.specs.Result.{IsErrAnd, result_unwrap_or}
use Rattle.std.proofs.lemmas.Result.{err_from_is_err_and}
use Rattle.answers.specs.declared.Refusal.{Refusal}
use Rattle.answers.specs.declared.Refusal.TheVariants.{Input}
use Rattle.answers.specs.Answers.{number_told}
use Rattle.blocks.specs.Parts.{Way, fits, part_number, counted, after}
use Rattle.hash.specs.declared.State.{State}
use Rattle.hash.specs.States.{hash_way, fed}
use Rattle.derive.specs.declared.Started.{Started}
use Rattle.derive.specs.Macing.{mac_way, mac_fed}
use Rattle.cipher.specs.declared.Coding.{Coding}
use Rattle.cipher.specs.Coding.{code_way, code_fed}
use Rattle.parts.specs.Forms.{Form}
use Rattle.parts.specs.Lent.{part_answer, lent_fits, written, begun_number, begun_after, fed_number, fed_after, ended_number, ended_after}

-- the refusal that the caller's `?` hands on
handed : {S T : Type 0} (q : Refusal) {k r : Result S Refusal} (s : Result T Refusal) → k ≡ r → k ≡ Err q → IsErrAnd s (λ e. e ≡ q) → (r ≡ Err q) × (s ≡ Err q)
handed q s e i h = let p = err_from_is_err_and s h in (sym e ∙ i, p.1 ∙ ap Err p.2)

module _ {S : Type 0} (f : Form S) where
  pub begun_length : (r : Result S Refusal) (b : List ℕ) → (length b ≡ f.size → ⊥) → (1 ≡ begun_number f r b) × (b ≡ begun_after f r b)
  unfolding begun_number begun_after lent_fits
  begun_length r b h = (simp (ne_eqb (length b) f.size h), simp (ne_eqb (length b) f.size h))

  pub begun_key : {T : Type 0} (q : Refusal) {k : Result S Refusal} (r : Result S Refusal) (s : Result T Refusal) (b : List ℕ) → length b ≡ f.size → k ≡ r
      → k ≡ Err q → IsErrAnd s (λ e. e ≡ q) → (number_told s ≡ begun_number f r b) × (b ≡ begun_after f r b)
  unfolding begun_number begun_after lent_fits
  begun_key q r s b h e i j =
      let p = handed q s e i j in (
        ap number_told p.1 ∙ sym (ap number_told p.0) ∙ simp (eq-eqb (length b) f.size h),
        sym (ap (λ (x : Result S Refusal). written f x b) p.0) ∙ simp (eq-eqb (length b) f.size h),
      )

  pub begun_done : {k : Result S Refusal} (r : Result S Refusal) (x : S) (b : List ℕ) {b1 : List ℕ} → length b ≡ f.size → k ≡ r → k ≡ Ok x → b1 ≡ f.out x
      → (0 ≡ begun_number f r b) × (b1 ≡ begun_after f r b)
  unfolding begun_number begun_after lent_fits
  begun_done r x b h e i o =
      let p : r ≡ Ok x = sym e ∙ i in (
        sym (ap number_told p) ∙ simp (eq-eqb (length b) f.size h),
        o ∙ sym (ap (λ (y : Result S Refusal). written f y b) p) ∙ simp (eq-eqb (length b) f.size h),
      )

  module _ {A : Type 0} (w : Way S A) where
    pub fed_length : (b m : List ℕ) → (length b ≡ f.size → ⊥) → (1 ≡ fed_number f w b m) × (b ≡ fed_after f w b m)
    unfolding fed_number fed_after lent_fits
    fed_length b m h = (simp (ne_eqb (length b) f.size h), simp (ne_eqb (length b) f.size h))

    pub fed_not : {T : Type 0} (q : Refusal) {k : Result S Refusal} (s : Result T Refusal) (b m : List ℕ) → length b ≡ f.size → k ≡ part_answer w (f.into b) m
        → k ≡ Err q → IsErrAnd s (λ e. e ≡ q) → (number_told s ≡ fed_number f w b m) × (b ≡ fed_after f w b m)
    unfolding fed_number fed_after lent_fits part_number
    fed_not {T} q {k} s b m h e i j = go (fits (w.total (f.into b)) (length m)) refl p.0
      where
        p : (part_answer w (f.into b) m ≡ Err q) × (s ≡ Err q)
        p = handed q s e i j

        go : (t : Bool) → fits (w.total (f.into b)) (length m) ≡ t → cond {A = Result S Refusal} t (Ok (counted w (f.into b) m)) (Err Input) ≡ Err q
            → (number_told s ≡ fed_number f w b m) × (b ≡ fed_after f w b m)
        go true u v = absurd cc
        go false u v =
            let n : q ≡ Input = cc in (
              ap number_told (p.1 ∙ ap Err n) ∙ simp (eq-eqb (length b) f.size h, u),
              simp (eq-eqb (length b) f.size h, u),
            )

    pub fed_done : {k : Result S Refusal} (x : S) (b m : List ℕ) {b1 : List ℕ} → length b ≡ f.size → k ≡ part_answer w (f.into b) m → k ≡ Ok x → b1 ≡ f.out x
        → (0 ≡ fed_number f w b m) × (b1 ≡ fed_after f w b m)
    unfolding fed_number fed_after lent_fits part_number after
    fed_done {k} x b m {b1} h e i o = go (fits (w.total (f.into b)) (length m)) refl (sym e ∙ i)
      where
        go : (t : Bool) → fits (w.total (f.into b)) (length m) ≡ t → cond {A = Result S Refusal} t (Ok (counted w (f.into b) m)) (Err Input) ≡ Ok x
            → (0 ≡ fed_number f w b m) × (b1 ≡ fed_after f w b m)
        go false u v = absurd cc
        go true u v =
            let n : x ≡ counted w (f.into b) m = cc in (
              simp (eq-eqb (length b) f.size h, u),
              o ∙ ap f.out n ∙ simp (eq-eqb (length b) f.size h, u),
            )

  module _ (n : ℕ) where
    pub ended_lent : (b out : List ℕ) (r : Result (List ℕ) Refusal) → (length b ≡ f.size → ⊥) ⊎ ((length b ≡ f.size) × (length out ≡ n → ⊥))
        → (1 ≡ ended_number f n b out r) × (out ≡ ended_after f n b out r)
    unfolding ended_number ended_after lent_fits
    ended_lent b out r (inl h) = (simp (ne_eqb (length b) f.size h), simp (ne_eqb (length b) f.size h))
    ended_lent b out r (inr o) =
        (simp (eq-eqb (length b) f.size o.0, ne_eqb (length out) n o.1), simp (eq-eqb (length b) f.size o.0, ne_eqb (length out) n o.1))

    pub ended_not : {T : Type 0} (q : Refusal) {k : Result (List ℕ) Refusal} (r : Result (List ℕ) Refusal) (s : Result T Refusal) (b out : List ℕ)
        → length b ≡ f.size → length out ≡ n → k ≡ r → k ≡ Err q → IsErrAnd s (λ e. e ≡ q) → (number_told s ≡ ended_number f n b out r) × (out ≡ ended_after f n b out r)
    unfolding ended_number ended_after lent_fits
    ended_not q r s b out h o e i j =
        let p = handed q s e i j in (
          ap number_told p.1 ∙ sym (ap number_told p.0) ∙ simp (eq-eqb (length b) f.size h, eq-eqb (length out) n o),
          sym (ap (λ (x : Result (List ℕ) Refusal). result_unwrap_or x out) p.0) ∙ simp (eq-eqb (length b) f.size h, eq-eqb (length out) n o),
        )

    pub ended_done : {k : Result (List ℕ) Refusal} (r : Result (List ℕ) Refusal) (x b out : List ℕ) {out1 : List ℕ} → length b ≡ f.size → length out ≡ n → k ≡ r → k ≡ Ok x
        → out1 ≡ x → (0 ≡ ended_number f n b out r) × (out1 ≡ ended_after f n b out r)
    unfolding ended_number ended_after lent_fits
    ended_done r x b out h o e i j =
        let p : r ≡ Ok x = sym e ∙ i in (
          sym (ap number_told p) ∙ simp (eq-eqb (length b) f.size h, eq-eqb (length out) n o),
          j ∙ sym (ap (λ (y : Result (List ℕ) Refusal). result_unwrap_or y out) p) ∙ simp (eq-eqb (length b) f.size h, eq-eqb (length out) n o),
        )

-- what feeding a state t that was read as u answers, for each of the three
pub hash_answer : {t : State} {r : Result State Refusal} (u : State) (m : List ℕ) → t ≡ u → r ≡ fed t m → r ≡ part_answer hash_way u m
unfolding fed
hash_answer u m e f = f ∙ ap (λ (x : State). part_answer hash_way x m) e

pub mac_answer : {t : Started} {r : Result Started Refusal} (u : Started) (m : List ℕ) → t ≡ u → r ≡ mac_fed t m → r ≡ part_answer mac_way u m
unfolding mac_fed
mac_answer u m e f = f ∙ ap (λ (x : Started). part_answer mac_way x m) e

pub code_answer : {t : Coding} {r : Result Coding Refusal} (u : Coding) (m : List ℕ) → t ≡ u → r ≡ code_fed t m → r ≡ part_answer code_way u m
unfolding code_fed
code_answer u m e f = f ∙ ap (λ (x : Coding). part_answer code_way x m) e
