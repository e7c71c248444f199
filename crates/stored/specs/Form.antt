-- A desk's table as bytes that a caller lends and may store: 64 entries of 25 bytes. Any 1,600 bytes are a table. Assumes nothing.
use Rattle.std.specs.Prelude.{ℕ, zero, suc, ◌+◌, Bool, not, cond, List, [], ◌∷◌, ◌++◌, eqb, get_or, take, drop}
use Rattle.octets.specs.Numbers.{be, be_octets}
use Rattle.table.specs.declared.Entry.{Entry}

-- whether it holds a card, the number of digits, nineteen places for them, the sequence number, whether there is a last counter, and that counter, high
-- byte first. Where a mark is read, any number but 0 is a yes
unfoldable pub entry_at : List ℕ → ℕ → Entry
entry_at b p =
    record {
      held = not (eqb (get_or b p 0) 0);
      id = record { digits = take 19 (drop (p + 2) b); count = get_or b (p + 1) 0; sequence = get_or b (p + 21) 0 };
      known = not (eqb (get_or b (p + 22) 0) 0);
      last = be (get_or b (p + 23) 0 ∷ get_or b (p + 24) 0 ∷ []);
    }

unfoldable pub flag : Bool → ℕ
flag b = cond b 1 0

unfoldable pub entry_out : Entry → List ℕ
entry_out e = flag e.held ∷ e.id.count ∷ (e.id.digits ++ (e.id.sequence ∷ flag e.known ∷ be_octets 2 e.last))

-- n entries from p on, and the bytes of entries
unfoldable pub entries_from : ℕ → ℕ → List ℕ → List Entry
entries_from zero p b = []
entries_from (suc n) p b = entry_at b p ∷ entries_from n (p + 25) b

abbrev pub table_in : List ℕ → List Entry
table_in b = entries_from 64 0 b

unfoldable pub table_out : List Entry → List ℕ
table_out [] = []
table_out (e ∷ t) = entry_out e ++ table_out t
