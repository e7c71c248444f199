-- What is done at a table, for every table (Wish 7: "19 unknown card, 20 card already held, 21 no room"): the places after it, or why it is refused. Assumes nothing.
use Rattle.std.specs.Prelude.{ℕ, true, false, cond, List, [], ◌∷◌, replicate, Result, Ok, Err}
use Rattle.answers.specs.declared.Refusal.{Refusal}
use Rattle.answers.specs.declared.Refusal.TheVariants.{UnknownCard, AlreadyHeld, TableFull}
use Rattle.table.specs.declared.CardId.{CardId}
use Rattle.table.specs.declared.Entry.{Entry}
use Rattle.table.specs.declared.Last.{Last}
use Rattle.table.specs.Table.{names, held, room}

-- "A forgotten card added again starts with no last counter": the place of a card that is added
abbrev pub fresh : CardId → Entry
fresh c = record { held = true; id = c; known = false; last = 0 }

-- an empty place
abbrev pub empty : Entry
empty = record { held = false; id = record { digits = replicate 19 0; count = 0; sequence = 0 }; known = false; last = 0 }

-- the card at the first place that holds none
unfoldable pub placed : CardId → List Entry → List Entry
placed c [] = []
placed c (e ∷ t) = cond e.held (e ∷ placed c t) (fresh c ∷ t)

-- "adding checks 2, 20, 21"
unfoldable pub adding : CardId → List Entry → Result (List Entry) Refusal
adding c t = cond (held c t) (Err AlreadyHeld) (cond (room t) (Ok (placed c t)) (Err TableFull))

-- the same at each place
unfoldable pub each : (Entry → Entry) → List Entry → List Entry
each f [] = []
each f (e ∷ t) = f e ∷ each f t

unfoldable pub cleared_entry : CardId → Entry → Entry
cleared_entry c e = cond (names c e) empty e

-- "A card can be forgotten, and its room is used for the next": every place that holds it is empty
unfoldable pub forgetting : CardId → List Entry → Result (List Entry) Refusal
forgetting c t = cond (held c t) (Ok (each (cleared_entry c) t)) (Err UnknownCard)

unfoldable pub kept_entry : CardId → ℕ → Entry → Entry
kept_entry c n e = cond (names c e) (record { held = e.held; id = e.id; known = true; last = n }) e

-- a counter is kept for a card, at every place that holds it
unfoldable pub keeping : CardId → ℕ → List Entry → Result (List Entry) Refusal
keeping c n t = cond (held c t) (Ok (each (kept_entry c n) t)) (Err UnknownCard)

-- the last counter at the first place that holds the card
unfoldable pub reading : CardId → List Entry → Result Last Refusal
reading c [] = Err UnknownCard
reading c (e ∷ t) = cond (names c e) (Ok (record { known = e.known; last = e.last })) (reading c t)
