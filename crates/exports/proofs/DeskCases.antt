-- The desk's table as include/box.h has it: an entry byte by byte, both ways, and a free one of zeros. Assumes nothing.
use mathlib.Core.Path.{◌≡◌, refl}
use mathlib.Core.Bool.{true}
use mathlib.Core.List.{List, [], ◌∷◌}
use Prim.Native.Nat.{ℕ}
use lib.ListN.{replicate}
use Rattle.octets.specs.Numbers.{be, le, le_octets, be_octets}
use Rattle.table.specs.declared.Entry.{Entry}
use Rattle.table.specs.Calls.{empty}
use Rattle.stored.specs.Form.{entry_at, flag, entry_out}

abbrev its_entry : Entry
its_entry = record { held = true; id = record { digits = 1 ∷ 2 ∷ 3 ∷ 4 ∷ 5 ∷ 6 ∷ 7 ∷ 8 ∷ 9 ∷ 0 ∷ 1 ∷ 2 ∷ replicate 7 0; count = 12; sequence = 34 }; known = true; last = 0x0506 }

abbrev its_bytes : List ℕ
its_bytes = 1 ∷ 12 ∷ 1 ∷ 2 ∷ 3 ∷ 4 ∷ 5 ∷ 6 ∷ 7 ∷ 8 ∷ 9 ∷ 0 ∷ 1 ∷ 2 ∷ 0 ∷ 0 ∷ 0 ∷ 0 ∷ 0 ∷ 0 ∷ 0 ∷ 34 ∷ 1 ∷ 5 ∷ 6 ∷ []

pub entry_written : entry_out its_entry ≡ its_bytes
unfolding entry_out flag be_octets le_octets
entry_written = refl

pub entry_read : entry_at its_bytes 0 ≡ its_entry
unfolding entry_at be le
entry_read = refl

pub free_entry : entry_at (replicate 25 0) 0 ≡ empty
unfolding entry_at be le
free_entry = refl
