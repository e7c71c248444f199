-- What the functions over lent states answer, and every lent byte after them, for every input. Assumes nothing.
use Rattle.std.specs.Prelude.{Bool, ◌&&◌, cond, List, ℕ, eqb, length, Result, Ok, Err}
use Rattle.std.specs.Result.{result_unwrap_or}
use Rattle.answers.specs.declared.Refusal.{Refusal}
use Rattle.answers.specs.declared.Refusal.TheVariants.{Input}
use Rattle.answers.specs.Refusals.{number}
use Rattle.answers.specs.Answers.{number_told}
use Rattle.blocks.specs.Parts.{Way, fits, part_number, counted, after}
use Rattle.parts.specs.Forms.{Form}

-- what a way answers to a part
abbrev pub part_answer : {S A : Type 0} → Way S A → S → List ℕ → Result S Refusal
part_answer w s m = cond (fits (w.total s) (length m)) (Ok (counted w s m)) (Err Input)

module _ {S : Type 0} (f : Form S) where
  -- a lent state of another length is 1
  unfoldable pub lent_fits : List ℕ → Bool
  lent_fits b = eqb (length b) f.size

  -- a state written over lent bytes; a refusal leaves them
  abbrev pub written : Result S Refusal → List ℕ → List ℕ
  written (Ok s) b = f.out s
  written (Err q) b = b

  -- begun, where the key is answered by r
  unfoldable pub begun_number : Result S Refusal → List ℕ → ℕ
  begun_number r b = cond (lent_fits b) (number_told r) (number Input)

  unfoldable pub begun_after : Result S Refusal → List ℕ → List ℕ
  begun_after r b = cond (lent_fits b) (written r b) b

  -- fed with a part m
  module _ {A : Type 0} (w : Way S A) where
    unfoldable pub fed_number : List ℕ → List ℕ → ℕ
    fed_number b m = cond (lent_fits b) (part_number (w.total (f.into b)) m) (number Input)

    unfoldable pub fed_after : List ℕ → List ℕ → List ℕ
    fed_after b m = cond (lent_fits b && fits (w.total (f.into b)) (length m)) (f.out (after w (f.into b) m)) b

  -- ended: the answer r goes to a slice out that is lent for n
  unfoldable pub ended_number : ℕ → List ℕ → List ℕ → Result (List ℕ) Refusal → ℕ
  ended_number n b out r = cond (lent_fits b && eqb (length out) n) (number_told r) (number Input)

  unfoldable pub ended_after : ℕ → List ℕ → List ℕ → Result (List ℕ) Refusal → List ℕ
  ended_after n b out r = cond (lent_fits b && eqb (length out) n) (result_unwrap_or r out) out
