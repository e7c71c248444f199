-- What a call gives, by the readings of its own card and whether there is room: nothing else of the table is looked at. Assumes nothing.
use Rattle.std.specs.Prelude.{ℕ, Bool, true, false, List, [], ◌∷◌, Option, None, Some}
use Rattle.answers.specs.declared.Refusal.TheVariants.{UnknownCard, AlreadyHeld, TableFull}
use Rattle.answers.specs.Refusals.{number as number_of}
use Rattle.table.specs.declared.CardId.{CardId}
use Rattle.table.specs.Table.{readings}
use Rattle.table.specs.Acts.{Use, Act, adds, forgets, uses, Outcome}

abbrev pub is_some : List (Option ℕ) → Bool
is_some [] = false
is_some (x ∷ r) = true

abbrev pub first : List (Option ℕ) → Option ℕ
first [] = None
first (x ∷ r) = x

-- a counter over every reading
abbrev pub over : ℕ → List (Option ℕ) → List (Option ℕ)
over n [] = []
over n (x ∷ r) = Some n ∷ over n r

abbrev pub over_by : Option ℕ → List (Option ℕ) → List (Option ℕ)
over_by None r = r
over_by (Some n) r = over n r

-- number, answer, and the card's readings after the call
pub record Seen (A : Type 0) : Type 0 where
  pub number : ℕ
  pub given : Option A
  pub after : List (Option ℕ)

abbrev pub only : {A : Type 0} → ℕ → List (Option ℕ) → Seen A
only n r = record { number = n; given = None; after = r }

abbrev pub taken : {A : Type 0} → Use A → List (Option ℕ) → Seen A
taken u r = record { number = 0; given = Some u.answer; after = over_by u.keep r }

abbrev pub seen : {A : Type 0} → Act A → List (Option ℕ) → Bool → Seen A
seen adds [] true = only 0 (None ∷ [])
seen adds [] false = only (number_of TableFull) []
seen adds (x ∷ r) b = only (number_of AlreadyHeld) (x ∷ r)
seen forgets [] b = only (number_of UnknownCard) []
seen forgets (x ∷ r) b = only 0 []
seen (uses f) [] b = only (number_of UnknownCard) []
seen (uses f) (x ∷ r) b = taken (f x) (x ∷ r)

abbrev pub view : {A : Type 0} → CardId → Outcome A → Seen A
view c o = record { number = o.number; given = o.given; after = readings c o.table }
