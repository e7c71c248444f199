-- Writing by example: number, size and buffer (Wish 6). Assumes nothing.
use Prim.Native.Nat.{ℕ}
use mathlib.Core.Path.{◌≡◌, refl}
use mathlib.Core.Bool.{Bool, true, ◌&&◌}
use mathlib.Core.List.{List, [], ◌∷◌, ◌++◌}
use lib.Dec.{eqb}
use lib.ListN.{replicate}
use Rattle.octets.specs.Numbers.{be, le}
use Rattle.octets.specs.Same.{same}
use Rattle.octets.specs.Laid.{laid}
use Rattle.shapes.specs.Length.{largest, largest_short, length_field}
use Rattle.templates.specs.declared.Holder.TheVariants.{Outer}
use Rattle.templates.specs.declared.Object.{Object}
use Rattle.templates.specs.Grammar.{tag_bytes, head_size}
use Rattle.templates.specs.Lent.{object_in, objects_in}
use Rattle.templates.specs.Reading.{stands, after, within, is_template, is_data, length_fits, judged, verdict}
use Rattle.scripts.specs.Writing.{lies, all_lie, own_length, added_by, bytes_within, length_of_first, data_in, bytes_of, open_at, placed, level_after, holder_after, fault_from, objects_fault, said, check_number, write_number, write_size, write_after}

-- an object of tag, level, length and place as it is lent, its tag in two bytes
abbrev pub lent : ℕ → ℕ → ℕ → ℕ → ℕ → List ℕ
lent high low l n p = high ∷ low ∷ 0 ∷ l ∷ 0 ∷ n ∷ 0 ∷ 0 ∷ 0 ∷ p ∷ []

-- number, size and the buffer after
pub record Example : Type 0 where
  pub objects : List ℕ
  pub source : List ℕ
  pub buffer : List ℕ
  pub place : ℕ
  pub answer : List ℕ

abbrev pub holds : List Example → Bool
holds [] = true
holds (e ∷ es) =
    same
    (write_number e.objects e.source e.buffer e.place
    ∷ write_size e.objects e.source e.buffer e.place
    ∷ write_after e.objects e.source e.buffer e.place)
    e.answer
    && holds es

pub wrote_so : holds (
    -- data from place 0 on, out of order and overlapping; every other byte stays
    record {
      objects = lent 0 0x72 1 9 9 ++ (lent 0x9f 0x18 2 4 1 ++ lent 0 0x86 2 2 0);
      source = 1 ∷ 2 ∷ 3 ∷ 4 ∷ 5 ∷ [];
      buffer = replicate 15 0xaa;
      place = 1;
      answer = 0 ∷ 13 ∷ 0xaa ∷ 0x72 ∷ 11 ∷ 0x9f ∷ 0x18 ∷ 4 ∷ 2 ∷ 3 ∷ 4 ∷ 5 ∷ 0x86 ∷ 2 ∷ 1 ∷ 2 ∷ 0xaa ∷ [];
    }
    -- no room by one byte is 3; a bad object is 16 ahead of it, and data outside the source 1 ahead of both
    ∷ record { objects = lent 0 0x71 1 0 0; source = []; buffer = 7 ∷ 8 ∷ []; place = 1; answer = 3 ∷ 0 ∷ 7 ∷ 8 ∷ [] }
    ∷ record { objects = lent 0 0x86 1 0 0; source = []; buffer = 7 ∷ 8 ∷ []; place = 1; answer = 16 ∷ 0 ∷ 7 ∷ 8 ∷ [] }
    ∷ record { objects = lent 0 0x55 1 0 0 ++ lent 0 0x86 2 1 0; source = []; buffer = []; place = 1; answer = 1 ∷ 0 ∷ [] }
    -- none at all; a level that is skipped, and level 0
    ∷ record { objects = []; source = []; buffer = []; place = 0; answer = 16 ∷ 0 ∷ [] }
    ∷ record { objects = lent 0 0x71 2 0 0; source = []; buffer = []; place = 0; answer = 16 ∷ 0 ∷ [] }
    ∷ record { objects = lent 0 0x71 0 0 0; source = []; buffer = []; place = 0; answer = 16 ∷ 0 ∷ [] }
    -- part of an object
    ∷ record { objects = 0 ∷ 0x71 ∷ 0 ∷ []; source = []; buffer = []; place = 0; answer = 1 ∷ 0 ∷ [] }
    ∷ []) ≡ true
unfolding same be le laid largest largest_short length_field tag_bytes head_size object_in objects_in stands after within is_template is_data length_fits judged verdict lies all_lie own_length added_by bytes_within length_of_first data_in bytes_of open_at placed level_after holder_after fault_from objects_fault said check_number write_number write_size write_after
wrote_so = refl

-- objects with so many ahead of them, and the number
abbrev pub plain : ℕ → ℕ → ℕ → Object
plain t l n = record { tag = t; level = l; place = 0; length = n }

pub record Fault : Type 0 where
  pub ahead : ℕ
  pub objects : List Object
  pub answer : ℕ

abbrev pub faults : List Fault → Bool
faults [] = true
faults (e ∷ es) = eqb (fault_from 1 Outer e.ahead e.objects) e.answer && faults es

pub faulted_so : faults (
    -- level five is 17, also of the 33rd, which else is 18, and 16 where it is bad
    record { ahead = 0; objects = plain 0xe1 1 0 ∷ plain 0xe1 2 0 ∷ plain 0xe1 3 0 ∷ plain 0xe1 4 0 ∷ plain 0x71 5 0 ∷ []; answer = 17 }
    ∷ record { ahead = 28; objects = plain 0xe1 1 0 ∷ plain 0xe1 2 0 ∷ plain 0xe1 3 0 ∷ plain 0xe1 4 0 ∷ plain 0x71 5 0 ∷ []; answer = 17 }
    ∷ record { ahead = 31; objects = plain 0x71 1 0 ∷ []; answer = 0 }
    ∷ record { ahead = 32; objects = plain 0x71 1 0 ∷ []; answer = 18 }
    ∷ record { ahead = 32; objects = plain 0x86 1 0 ∷ []; answer = 16 }
    -- a template of 255 bytes, and of 256, ahead of what is wrong within it
    ∷ record { ahead = 0; objects = plain 0x71 1 0 ∷ plain 0x86 2 252 ∷ []; answer = 0 }
    ∷ record { ahead = 0; objects = plain 0x71 1 0 ∷ plain 0x86 2 253 ∷ []; answer = 16 }
    ∷ record { ahead = 28; objects = plain 0xe1 1 0 ∷ plain 0xe1 2 0 ∷ plain 0xe1 3 0 ∷ plain 0xe1 4 0 ∷ plain 0x71 5 0 ∷ plain 0x86 6 253 ∷ []; answer = 16 }
    -- two at fault: the first in order
    ∷ record { ahead = 31; objects = plain 0x71 1 0 ∷ plain 0x71 1 0 ∷ plain 0x55 1 0 ∷ []; answer = 18 }
    ∷ []) ≡ true
unfolding largest largest_short length_field tag_bytes head_size stands after within is_template is_data length_fits judged verdict own_length added_by bytes_within length_of_first open_at placed level_after holder_after fault_from
faulted_so = refl
