-- What the entry points answer, test by test. Assumes nothing.
use mathlib.Core.Path.{◌≡◌, refl, sym, ap, ap₂, ◌∙◌}
use mathlib.Core.Bool.{Bool, true, false, ◌||◌, cond, and-false}
use mathlib.Core.List.{List, [], ◌∷◌}
use Prim.Native.Nat.{ℕ, ◌+◌}
use native.Mathlib.Omega.{arith}
use borrow.Author.Tests.{eq-eqb, ne_eqb, eqb-true}
use lib.Dec.{eqb}
use lib.ListN.{length, length-append}
use Rattle.std.specs.Prelude.{Option, Some, None, Ok, Err}
use Rattle.octets.specs.Lengths.{key_fits}
use Rattle.gost.specs.Gost.{subkeys}
use Rattle.cipher.specs.Answers.{coded_with}
use Rattle.cipher.specs.Code.{code_of}
use Rattle.cipher.proofs.AnswerLaws.{string_fits_lem}
use Rattle.cipher.proofs.CodeLaws.{length_code_of}
use Rattle.cryptogram.specs.declared.Kind.{Kind}
use Rattle.cryptogram.specs.declared.Kind.TheVariants.{Arqc, Tc, Aac}
use Rattle.answers.specs.declared.Refusal.TheVariants.{Input}
use Rattle.cryptogram.specs.Cryptogram.{twice, double_code, cryptogram_of, arpc_of}
use Rattle.cryptogram.specs.Answers.{cryptogram_answer, arpc_answer, kind_number, kind_of, kind_code, kind_values, ReadsKind}
use Rattle.cryptogram.proofs.DataLaws.{data_length_lem}

-- the code of 72 bytes comes with no refusal
pub coded_string : (ks s : List ℕ) → length s ≡ 72 → coded_with ks s ≡ Ok (code_of ks s)
coded_string ks s e = sym (string_fits_lem ks s (λ z. omega arith) (omega arith))

-- a cryptogram and an ARPC are 8 bytes
length_double : (ks s : List ℕ) → length (double_code ks s) ≡ 8
unfolding double_code twice
length_double ks s = length-append (code_of ks s) (code_of ks s) ∙ ap₂ (λ (x y : ℕ). x + y) (length_code_of ks s) (length_code_of ks s)

pub length-cryptogram : (ks : List ℕ) (kind : Kind) (atc : ℕ) (d : List ℕ) → length (cryptogram_of ks kind atc d) ≡ 8
unfolding cryptogram_of
length-cryptogram ks kind atc d = length_double ks _

pub length-arpc : (ks c u : List ℕ) → length (arpc_of ks c u) ≡ 8
unfolding arpc_of
length-arpc ks c u = length_double ks _

module _ (key : List ℕ) (kind : Kind) (atc : ℕ) (d : List ℕ) where
  pub no_key : (length key ≡ 32 → ⊥) → Err Input ≡ cryptogram_answer key kind atc d
  unfolding cryptogram_answer key_fits
  no_key h = simp (ne_eqb _ _ h)

  pub no_data : (length d ≡ 65 → ⊥) → Err Input ≡ cryptogram_answer key kind atc d
  unfolding cryptogram_answer
  no_data h = simp (data_length_lem, ne_eqb _ _ h, and-false)

  pub made : length key ≡ 32 → length d ≡ 65 → Ok (cryptogram_of (subkeys 8 key) kind atc d) ≡ cryptogram_answer key kind atc d
  unfolding cryptogram_answer key_fits
  made k e = simp (data_length_lem, eq-eqb _ _ k, eq-eqb _ _ e)

module _ (key c u : List ℕ) where
  pub arpc_no_key : (length key ≡ 32 → ⊥) → Err Input ≡ arpc_answer key c u
  unfolding arpc_answer key_fits
  arpc_no_key h = simp (ne_eqb _ _ h)

  pub arpc_no_cryptogram : (length c ≡ 8 → ⊥) → Err Input ≡ arpc_answer key c u
  unfolding arpc_answer
  arpc_no_cryptogram h = simp (ne_eqb _ _ h, and-false)

  pub arpc_no_csu : (length u ≡ 4 → ⊥) → Err Input ≡ arpc_answer key c u
  unfolding arpc_answer
  arpc_no_csu h = simp (ne_eqb _ _ h, and-false)

  pub arpc_made : length key ≡ 32 → length c ≡ 8 → length u ≡ 4 → Ok (arpc_of (subkeys 8 key) c u) ≡ arpc_answer key c u
  unfolding arpc_answer key_fits
  arpc_made k e f = simp (eq-eqb _ _ k, eq-eqb _ _ e, eq-eqb _ _ f)

pub same_arpc : {k k' g g' u u' : List ℕ} → k ≡ k' → g ≡ g' → u ≡ u' → arpc_of k g u ≡ arpc_of k' g' u'
same_arpc e f h = cc

-- the number of a kind is read back
pub kind_read : (kind : Kind) → kind_of (kind_number kind) ≡ Some kind
unfolding kind_of kind_number
kind_read Arqc = refl
kind_read Tc = refl
kind_read Aac = refl

-- and any other number is 1
pub kind_accepted : (kind : Kind) → kind_code (kind_of (kind_number kind)) ≡ 0
unfolding kind_code
kind_accepted kind = ap kind_code (kind_read kind)

pub kind_refused : (n : ℕ) → ((kind : Kind) → n ≡ kind_number kind → ⊥) → kind_code (kind_of n) ≡ 1
unfolding kind_code kind_of
kind_refused n h = simp (ne_eqb _ _ (h Arqc), ne_eqb _ _ (h Tc), ne_eqb _ _ (h Aac))

-- a number read as a kind
pub reads_kind : {n : ℕ} {r : Option Kind} → r ≡ kind_of n → ReadsKind r n
unfolding kind_of kind_number kind_code kind_values
reads_kind {n} {r} e = record { is = e; its_number = ap kind_code e ∙ of_number (eqb n 0x80) (eqb n 0x40) (eqb n 0x00); its_values = ap kind_values e ∙ of_values (eqb n 0x80) (eqb n 0x40) (eqb n 0x00) refl refl refl }
  where
    of_number : (a b c : Bool) → kind_code (cond a (Some Arqc) (cond b (Some Tc) (cond c (Some Aac) None))) ≡ cond (a || (b || c)) 0 1
    of_number true b c = refl
    of_number false true c = refl
    of_number false false true = refl
    of_number false false false = refl

    of_values : (a b c : Bool) → eqb n 0x80 ≡ a → eqb n 0x40 ≡ b → eqb n 0x00 ≡ c
        → kind_values (cond a (Some Arqc) (cond b (Some Tc) (cond c (Some Aac) None))) ≡ cond (a || (b || c)) (n ∷ []) []
    of_values true b c ea eb ec = ap (λ (x : ℕ). x ∷ []) (sym (eqb-true n 0x80 ea))
    of_values false true c ea eb ec = ap (λ (x : ℕ). x ∷ []) (sym (eqb-true n 0x40 eb))
    of_values false false true ea eb ec = ap (λ (x : ℕ). x ∷ []) (sym (eqb-true n 0x00 ec))
    of_values false false false ea eb ec = refl
