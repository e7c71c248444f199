-- A table of places (Wish 7: "It keeps up to 64 cards by number and sequence (absent is 00), each with its last transaction counter"). A table is the
-- list of its entries; every list is one, also one that holds a card twice. Assumes nothing.
use Rattle.std.specs.Prelude.{ℕ, ◌+◌, Bool, false, not, ◌&&◌, ◌||◌, cond, List, [], ◌∷◌, eqb, Option, None, Some}
use Rattle.octets.specs.Same.{same}
use Rattle.table.specs.declared.CardId.{CardId}
use Rattle.table.specs.declared.Entry.{Entry}

-- the same number of digits, the same sequence number, the same digits
unfoldable pub same_id : CardId → CardId → Bool
same_id a b = eqb a.count b.count && (eqb a.sequence b.sequence && same a.digits b.digits)

-- a place that holds the card c
unfoldable pub names : CardId → Entry → Bool
names c e = e.held && same_id c e.id

-- some place holds c
unfoldable pub held : CardId → List Entry → Bool
held c [] = false
held c (e ∷ t) = names c e || held c t

-- some place holds no card
unfoldable pub room : List Entry → Bool
room [] = false
room (e ∷ t) = not e.held || room t

-- the last counter that a place keeps, if any
unfoldable pub counter_of : Entry → Option ℕ
counter_of e = cond e.known (Some e.last) None

-- what is kept of c: the last counter, if any, at each place that holds it. Empty where c is not held, one reading where it is held once
unfoldable pub readings : CardId → List Entry → List (Option ℕ)
readings c [] = []
readings c (e ∷ t) = cond (names c e) (counter_of e ∷ readings c t) (readings c t)

-- how many places hold a card
unfoldable pub held_count : List Entry → ℕ
held_count [] = 0
held_count (e ∷ t) = cond e.held 1 0 + held_count t
