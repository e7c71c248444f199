-- The desk: a card's entry in its table, a card's master keys, and adding and forgetting (Wish 7). Assumes nothing.
use Rattle.std.specs.Prelude.{ℕ, ◌-◌, Bool, cond, List, ◌++◌, length, replicate, Result, Ok, Err}
use Rattle.std.specs.Result.{result_unwrap_or}
use Rattle.answers.specs.declared.Refusal.{Refusal}
use Rattle.answers.specs.declared.Refusal.TheVariants.{CardNumber}
use Rattle.derive.specs.Derivation.{derived, card_label}
use Rattle.keys.specs.CardNumber.{card_fits, Y, packed_y}
use Rattle.table.specs.declared.CardId.{CardId}
use Rattle.table.specs.declared.Entry.{Entry}
use Rattle.table.specs.Calls.{adding, forgetting}
use Rattle.desk.specs.declared.Desk.{Desk}

-- "cards by number and sequence (absent is 00)": the digits, and zeros after them in the table's 19 places
unfoldable pub id_of : List ℕ → ℕ → CardId
id_of pan sequence = record { digits = pan ++ replicate (19 - length pan) 0; count = length pan; sequence = sequence }

-- "It derives the keys": a card's master key from the issuer's, with the card digits by pairs or packed
unfoldable pub master_key : Bool → List ℕ → List ℕ → ℕ → List ℕ
master_key packed issuer pan sequence = derived issuer card_label (cond packed (packed_y pan sequence) (Y pan sequence))

abbrev pub with_places : Desk → List Entry → Desk
with_places d t = record { ac = d.ac; smi = d.smi; smc = d.smc; packed = d.packed; places = t }

-- the desk with what its table becomes
abbrev pub told_by : Desk → Result (List Entry) Refusal → Result Desk Refusal
told_by d (Ok t) = Ok (with_places d t)
told_by d (Err q) = Err q

-- "adding checks 2, 20, 21"
unfoldable pub adds : Desk → List ℕ → ℕ → Result Desk Refusal
adds d pan sequence = cond (card_fits pan sequence) (told_by d (adding (id_of pan sequence) d.places)) (Err CardNumber)

-- "forgetting 2, 19"
unfoldable pub forgets : Desk → List ℕ → ℕ → Result Desk Refusal
forgets d pan sequence = cond (card_fits pan sequence) (told_by d (forgetting (id_of pan sequence) d.places)) (Err CardNumber)

-- the desk after such a call: a refusal hands back none, and the caller's is the one after it
abbrev pub desk_after : Result Desk Refusal → Desk → Desk
desk_after r d = result_unwrap_or r d
