-- Script templates by example: what the definition says of bytes (Wish 6). Assumes nothing.
use Prim.Native.Nat.{ℕ, zero, suc}
use mathlib.Core.Path.{◌≡◌, refl}
use mathlib.Core.Bool.{Bool, true, ◌&&◌}
use mathlib.Core.List.{List, [], ◌∷◌, ◌++◌}
use lib.ListN.{take, replicate}
use Rattle.octets.specs.Numbers.{le_octets, be_octets}
use Rattle.octets.specs.Same.{same}
use Rattle.shapes.specs.Length.{largest, largest_short, length_field, field_says}
use Rattle.shapes.specs.Shape.{length_of_under}
use Rattle.templates.specs.declared.Object.{Object}
use Rattle.templates.specs.declared.Read.{Read}
use Rattle.templates.specs.Grammar.{tag_bytes, head_size, object_at}
use Rattle.templates.specs.Lent.{object_bytes}
use Rattle.templates.specs.Reading.{stands, after, is_template, within, tag_in, ahead, head_for, head_of, length_fits, good, verdict, number_of_fault, place_of_fault, no_object, begun, kept, stopped, entered, object_read, onward, read_for, read_all, reading}

-- number and place of the fault, and of each object its tag, level, place and length
abbrev pub said : List Object → List ℕ
said [] = []
said (o ∷ os) = o.tag ∷ o.level ∷ o.place ∷ o.length ∷ said os

abbrev pub told : Read → List ℕ
told r = number_of_fault r.fault ∷ place_of_fault r.fault ∷ said (take r.count r.objects)

pub record Example : Type 0 where
  pub bytes : List ℕ
  pub answer : List ℕ

abbrev pub holds : List Example → Bool
holds [] = true
holds (e ∷ es) = same (told (reading e.bytes)) e.answer && holds es

pub read_so : holds (
    -- templates and commands may be empty; an identifier and a command; an e1 in an e1
    record { bytes = 0x71 ∷ 0 ∷ []; answer = 0 ∷ 0 ∷ 0x71 ∷ 1 ∷ 2 ∷ 0 ∷ [] }
    ∷ record {
      bytes = 0x72 ∷ 9 ∷ 0x9f ∷ 0x18 ∷ 4 ∷ 1 ∷ 2 ∷ 3 ∷ 4 ∷ 0x86 ∷ 0 ∷ [];
      answer = 0 ∷ 0 ∷ 0x72 ∷ 1 ∷ 2 ∷ 9 ∷ 0x9f18 ∷ 2 ∷ 5 ∷ 4 ∷ 0x86 ∷ 2 ∷ 11 ∷ 0 ∷ [];
    }
    ∷ record { bytes = 0xe1 ∷ 4 ∷ 0xe1 ∷ 2 ∷ 0x71 ∷ 0 ∷ 0x72 ∷ 0 ∷ []; answer = 0 ∷ 0 ∷ 0xe1 ∷ 1 ∷ 2 ∷ 4 ∷ 0xe1 ∷ 2 ∷ 4 ∷ 2 ∷ 0x71 ∷ 3 ∷ 6 ∷ 0 ∷ 0x72 ∷ 1 ∷ 8 ∷ 0 ∷ [] }
    -- 16: no input; a tag out of place, at the top and in a 71
    ∷ record { bytes = []; answer = 16 ∷ 0 ∷ [] }
    ∷ record { bytes = 0x86 ∷ 0 ∷ []; answer = 16 ∷ 0 ∷ [] }
    ∷ record { bytes = 0x71 ∷ 2 ∷ 0x71 ∷ 0 ∷ []; answer = 16 ∷ 2 ∷ 0x71 ∷ 1 ∷ 2 ∷ 2 ∷ [] }
    -- a length in another form; past the holder's end, also where the input goes on
    ∷ record { bytes = 0x71 ∷ 0x81 ∷ 0x7f ∷ replicate 127 0; answer = 16 ∷ 0 ∷ [] }
    ∷ record { bytes = 0x71 ∷ 3 ∷ 0x86 ∷ 2 ∷ 0 ∷ 0x71 ∷ 0 ∷ []; answer = 16 ∷ 2 ∷ 0x71 ∷ 1 ∷ 2 ∷ 3 ∷ [] }
    -- an identifier in second place, or not of 4 bytes; a lone 9f, and another byte after it
    ∷ record { bytes = 0x71 ∷ 9 ∷ 0x86 ∷ 0 ∷ 0x9f ∷ 0x18 ∷ 4 ∷ 1 ∷ 2 ∷ 3 ∷ 4 ∷ []; answer = 16 ∷ 4 ∷ 0x71 ∷ 1 ∷ 2 ∷ 9 ∷ 0x86 ∷ 2 ∷ 4 ∷ 0 ∷ [] }
    ∷ record { bytes = 0x71 ∷ 6 ∷ 0x9f ∷ 0x18 ∷ 3 ∷ 1 ∷ 2 ∷ 3 ∷ []; answer = 16 ∷ 2 ∷ 0x71 ∷ 1 ∷ 2 ∷ 6 ∷ [] }
    ∷ record { bytes = 0x71 ∷ 1 ∷ 0x9f ∷ []; answer = 16 ∷ 2 ∷ 0x71 ∷ 1 ∷ 2 ∷ 1 ∷ [] }
    ∷ record { bytes = 0x71 ∷ 3 ∷ 0x9f ∷ 0x19 ∷ 0 ∷ []; answer = 16 ∷ 2 ∷ 0x71 ∷ 1 ∷ 2 ∷ 3 ∷ [] }
    -- 17: at level five; and there a bad object is 16
    ∷ record {
      bytes = 0xe1 ∷ 8 ∷ 0xe1 ∷ 6 ∷ 0xe1 ∷ 4 ∷ 0xe1 ∷ 2 ∷ 0x71 ∷ 0 ∷ [];
      answer = 17 ∷ 8 ∷ 0xe1 ∷ 1 ∷ 2 ∷ 8 ∷ 0xe1 ∷ 2 ∷ 4 ∷ 6 ∷ 0xe1 ∷ 3 ∷ 6 ∷ 4 ∷ 0xe1 ∷ 4 ∷ 8 ∷ 2 ∷ [];
    }
    ∷ record {
      bytes = 0xe1 ∷ 8 ∷ 0xe1 ∷ 6 ∷ 0xe1 ∷ 4 ∷ 0xe1 ∷ 2 ∷ 0x86 ∷ 0 ∷ [];
      answer = 16 ∷ 8 ∷ 0xe1 ∷ 1 ∷ 2 ∷ 8 ∷ 0xe1 ∷ 2 ∷ 4 ∷ 6 ∷ 0xe1 ∷ 3 ∷ 6 ∷ 4 ∷ 0xe1 ∷ 4 ∷ 8 ∷ 2 ∷ [];
    }
    ∷ []) ≡ true
unfolding same largest largest_short length_field field_says length_of_under tag_bytes head_size object_at stands after is_template within tag_in ahead head_for head_of length_fits good verdict no_object begun kept stopped entered object_read onward read_for read_all reading
read_so = refl

-- n commands without data
abbrev pub empties : ℕ → List ℕ
empties zero = []
empties (suc n) = 0x86 ∷ 0 ∷ empties n

abbrev pub tops : ℕ → List ℕ
tops zero = []
tops (suc n) = 0x71 ∷ 0 ∷ tops n

-- number and place alone
abbrev pub faults : List Example → Bool
faults [] = true
faults (e ∷ es) = same (take 2 (told (reading e.bytes))) e.answer && faults es

pub faulted_so : faults (
    -- 18: 32 objects, one more, and one more that is bad
    record { bytes = 0x71 ∷ 62 ∷ empties 31; answer = 0 ∷ 0 ∷ [] }
    ∷ record { bytes = 0x71 ∷ 64 ∷ empties 32; answer = 18 ∷ 64 ∷ [] }
    ∷ record { bytes = 0x71 ∷ 64 ∷ (empties 31 ++ (0x87 ∷ 0 ∷ [])); answer = 16 ∷ 64 ∷ [] }
    -- 28 empty templates, four e1 and then a 33rd object at level five: 17
    ∷ record { bytes = tops 28 ++ (0xe1 ∷ 8 ∷ 0xe1 ∷ 6 ∷ 0xe1 ∷ 4 ∷ 0xe1 ∷ 2 ∷ 0x71 ∷ 0 ∷ []); answer = 17 ∷ 64 ∷ [] }
    -- two at fault, the first in byte order: in a template and after it, 17 and then 16, 18 and then 16, the holder's and then what it holds
    ∷ record { bytes = 0x71 ∷ 2 ∷ 0x87 ∷ 0 ∷ 0x55 ∷ 0 ∷ []; answer = 16 ∷ 2 ∷ [] }
    ∷ record { bytes = 0xe1 ∷ 8 ∷ 0xe1 ∷ 6 ∷ 0xe1 ∷ 4 ∷ 0xe1 ∷ 2 ∷ 0x71 ∷ 0 ∷ 0x86 ∷ 0 ∷ []; answer = 17 ∷ 8 ∷ [] }
    ∷ record { bytes = 0x86 ∷ 0 ∷ 0xe1 ∷ 8 ∷ 0xe1 ∷ 6 ∷ 0xe1 ∷ 4 ∷ 0xe1 ∷ 2 ∷ 0x71 ∷ 0 ∷ []; answer = 16 ∷ 0 ∷ [] }
    ∷ record { bytes = 0x71 ∷ 66 ∷ (empties 32 ++ (0x87 ∷ 0 ∷ [])); answer = 18 ∷ 64 ∷ [] }
    ∷ record { bytes = 0x71 ∷ 5 ∷ 0x87 ∷ 0 ∷ []; answer = 16 ∷ 0 ∷ [] }
    -- an identifier of 5 bytes; an empty e1; the four levels
    ∷ record { bytes = 0x71 ∷ 8 ∷ 0x9f ∷ 0x18 ∷ 5 ∷ 1 ∷ 2 ∷ 3 ∷ 4 ∷ 5 ∷ []; answer = 16 ∷ 2 ∷ [] }
    ∷ record { bytes = 0xe1 ∷ 0 ∷ []; answer = 0 ∷ 0 ∷ [] }
    ∷ record { bytes = 0xe1 ∷ 6 ∷ 0xe1 ∷ 4 ∷ 0x72 ∷ 2 ∷ 0x86 ∷ 0 ∷ []; answer = 0 ∷ 0 ∷ [] }
    -- the lengths at which the field changes
    ∷ record { bytes = 0x71 ∷ 0x81 ∷ 0x81 ∷ 0x86 ∷ 0x7f ∷ replicate 127 0; answer = 0 ∷ 0 ∷ [] }
    ∷ record { bytes = 0x71 ∷ 0x81 ∷ 0x83 ∷ 0x86 ∷ 0x81 ∷ 0x80 ∷ replicate 128 0; answer = 0 ∷ 0 ∷ [] }
    ∷ record { bytes = 0x71 ∷ 0x81 ∷ 0xff ∷ 0x86 ∷ 0x81 ∷ 0xfc ∷ replicate 252 0; answer = 0 ∷ 0 ∷ [] }
    ∷ record { bytes = 0x71 ∷ 0x82 ∷ 0 ∷ 2 ∷ 0x86 ∷ 0 ∷ []; answer = 16 ∷ 0 ∷ [] }
    ∷ []) ≡ true
unfolding same largest largest_short length_field field_says length_of_under tag_bytes head_size object_at stands after is_template within tag_in ahead head_for head_of length_fits good verdict no_object begun kept stopped entered object_read onward read_for read_all reading
faulted_so = refl

-- an object as ten bytes
pub laid_so : object_bytes (record { tag = 0x9f18; level = 2; length = 4; place = 0x01020304 }) ≡ 0x9f ∷ 0x18 ∷ 0 ∷ 2 ∷ 0 ∷ 4 ∷ 1 ∷ 2 ∷ 3 ∷ 4 ∷ []
unfolding object_bytes be_octets le_octets
laid_so = refl
