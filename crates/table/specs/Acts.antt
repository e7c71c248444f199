-- What the desk's calls do at the table, whatever else they compute: they add the card, forget it, or use it. A use sees the card's last counter, if any,
-- gives an answer, and may give a counter to keep: checking and wrapping are uses. Assumes nothing.
use Rattle.std.specs.Prelude.{ℕ, cond, List, Option, None, Some, Result, Ok, Err}
use Rattle.std.specs.Result.{result_unwrap_or}
use Rattle.answers.specs.declared.Refusal.{Refusal}
use Rattle.answers.specs.declared.Refusal.TheVariants.{UnknownCard}
use Rattle.answers.specs.Refusals.{number as number_of}
use Rattle.answers.specs.Answers.{number_told}
use Rattle.table.specs.declared.CardId.{CardId}
use Rattle.table.specs.declared.Entry.{Entry}
use Rattle.table.specs.declared.Last.{Last}
use Rattle.table.specs.Table.{held}
use Rattle.table.specs.Calls.{adding, forgetting, keeping, reading}

pub record Use (A : Type 0) : Type 0 where
  pub answer : A
  pub keep : Option ℕ

pub data Act (A : Type 0) : Type 0 where
  adds : Act A
  forgets : Act A
  uses : (Option ℕ → Use A) → Act A

-- what a call hands back: its number, its answer where it is a use of a held card, and the table after it
pub record Outcome (A : Type 0) : Type 0 where
  pub number : ℕ
  pub given : Option A
  pub table : List Entry

abbrev pub last_of : Result Last Refusal → Option ℕ
last_of (Ok x) = cond x.known (Some x.last) None
last_of (Err q) = None

-- "a refusal changes no entry"
abbrev pub table_after : Result (List Entry) Refusal → List Entry → List Entry
table_after r t = result_unwrap_or r t

abbrev pub kept_in : CardId → Option ℕ → List Entry → List Entry
kept_in c None t = t
kept_in c (Some n) t = table_after (keeping c n t) t

abbrev pub plainly : {A : Type 0} → Result (List Entry) Refusal → List Entry → Outcome A
plainly r t = record { number = number_told r; given = None; table = table_after r t }

abbrev pub used : {A : Type 0} → CardId → Use A → List Entry → Outcome A
used c u t = record { number = 0; given = Some u.answer; table = kept_in c u.keep t }

abbrev pub run : {A : Type 0} → Act A → CardId → List Entry → Outcome A
run adds c t = plainly (adding c t) t
run forgets c t = plainly (forgetting c t) t
run (uses f) c t = cond (held c t) (used c (f (last_of (reading c t))) t) (record { number = number_of UnknownCard; given = None; table = t })
