-- The number that an answer tells, and the length of what is lent. Assumes nothing.
use Rattle.std.specs.Prelude.{ℕ, cond, List, eqb, length, Result, Ok, Err}
use Rattle.answers.specs.declared.Refusal.{Refusal}
use Rattle.answers.specs.declared.Refusal.TheVariants.{Input}
use Rattle.answers.specs.Refusals.{number}

-- "A refusal returns its number only"; an accepted call tells 0
abbrev pub number_told : {T : Type 0} → Result T Refusal → ℕ
number_told (Ok x) = 0
number_told (Err q) = number q

-- what is lent for n bytes: "a lent input .. that .. has not the length .. stated" is 1
abbrev pub exactly : ℕ → List ℕ → Result (List ℕ) Refusal
exactly n lent = cond (eqb (length lent) n) (Ok lent) (Err Input)
