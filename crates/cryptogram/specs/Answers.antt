-- What the entry points answer, for every input: the cryptogram, or refusal 1 of 01. Assumes nothing.
use Rattle.std.specs.Prelude.{ℕ, ◌≡◌, Bool, ◌&&◌, ◌||◌, cond, List, [], ◌∷◌, eqb, length, Option, Some, None, Result, Ok, Err}
use Rattle.gost.specs.Gost.{subkeys}
use Rattle.octets.specs.Lengths.{key_fits}
use Rattle.answers.specs.declared.Refusal.{Refusal}
use Rattle.answers.specs.declared.Refusal.TheVariants.{Input}
use Rattle.answers.specs.Refusals.{number}
use Rattle.cryptogram.specs.declared.Kind.{Kind}
use Rattle.cryptogram.specs.declared.Kind.TheVariants.{Arqc, Tc, Aac}
use Rattle.cryptogram.specs.Data.{data_length}
use Rattle.cryptogram.specs.Cryptogram.{cryptogram_of, arpc_of}

unfoldable pub cryptogram_answer : List ℕ → Kind → ℕ → List ℕ → Result (List ℕ) Refusal
cryptogram_answer key kind atc d = cond (key_fits key && eqb (length d) data_length) (Ok (cryptogram_of (subkeys 8 key) kind atc d)) (Err Input)

unfoldable pub arpc_answer : List ℕ → List ℕ → List ℕ → Result (List ℕ) Refusal
arpc_answer key cryptogram csu =
    cond (key_fits key && (eqb (length cryptogram) 8 && eqb (length csu) 4)) (Ok (arpc_of (subkeys 8 key) cryptogram csu)) (Err Input)

-- a kind's number, as the clerk's trace has it for ARQC and AAC, and a card tells it to a terminal
unfoldable pub kind_number : Kind → ℕ
kind_number Arqc = 0x80
kind_number Tc = 0x40
kind_number Aac = 0x00

unfoldable pub kind_of : ℕ → Option Kind
kind_of n =
    cond (eqb n (kind_number Arqc)) (Some Arqc) (cond (eqb n (kind_number Tc)) (Some Tc) (cond (eqb n (kind_number Aac)) (Some Aac) None))

-- 01's number of an answer, and its value, the kind's number; refusal 1: an unknown kind
unfoldable pub kind_code : Option Kind → ℕ
kind_code (Some kind) = 0
kind_code None = number Input

unfoldable pub kind_values : Option Kind → List ℕ
kind_values (Some kind) = kind_number kind ∷ []
kind_values None = []

abbrev pub is_kind : ℕ → Bool
is_kind n = eqb n 0x80 || (eqb n 0x40 || eqb n 0x00)

pub record ReadsKind (r : Option Kind) (n : ℕ) : Type 0 where
  pub is : r ≡ kind_of n
  pub its_number : kind_code r ≡ cond (is_kind n) 0 (number Input)
  pub its_values : kind_values r ≡ cond (is_kind n) (n ∷ []) []
