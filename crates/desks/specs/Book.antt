-- The book of a desk: which cards it has to hold after some calls, each with its last counter, read off the calls alone; and what each call has to be
-- answered by that book (Wish 7). No definition of the desk is used. Assumes nothing.
use Rattle.std.specs.Prelude.{ℕ, ◌+◌, Bool, true, false, not, ◌&&◌, ◌||◌, cond, List, [], ◌∷◌, ◌++◌, eqb, leb, ltb, length, take, drop, replicate, Option, None, Some}
use Rattle.answers.specs.declared.Refusal.{Refusal}
use Rattle.answers.specs.declared.Refusal.TheVariants.{Input, CardNumber, NoRoom, PinDigits, UnknownCard, AlreadyHeld, TableFull, ArqcDiffers, CounterNotAbove}
use Rattle.answers.specs.Refusals.{number}
use Rattle.octets.specs.Same.{same}
use Rattle.octets.specs.Numbers.{be}
use Rattle.octets.specs.Laid.{laid}
use Rattle.gost.specs.Gost.{subkeys, encipher}
use Rattle.derive.specs.Derivation.{derived, card_label}
use Rattle.keys.specs.CardNumber.{card_fits, Y, packed_y}
use Rattle.keys.specs.Seeds.{session_seed}
use Rattle.pin.specs.PinBlock.{pin_fits, pin_block}
use Rattle.cryptogram.specs.declared.Kind.TheVariants.{Arqc}
use Rattle.cryptogram.specs.Cryptogram.{cryptogram_of, arpc_of}
use Rattle.message.specs.Code.{message}
use Rattle.desks.specs.Run.{Issuer, DeskCall, Add, Forget, Check, Wrap}

-- a card held: "by number and sequence .., each with its last transaction counter"
pub record Holding : Type 0 where
  pub pan : List ℕ
  pub sequence : ℕ
  pub last : Option ℕ

unfoldable pub is_of : List ℕ → ℕ → Holding → Bool
is_of pan q h = same pan h.pan && eqb q h.sequence

unfoldable pub holds : List ℕ → ℕ → List Holding → Bool
holds pan q [] = false
holds pan q (h ∷ b) = is_of pan q h || holds pan q b

-- the last counter of a card, none where there is none or the card is not held
unfoldable pub last_of : List ℕ → ℕ → List Holding → Option ℕ
last_of pan q [] = None
last_of pan q (h ∷ b) = cond (is_of pan q h) h.last (last_of pan q b)

-- a card struck out, and a counter kept for a card
unfoldable pub without : List ℕ → ℕ → List Holding → List Holding
without pan q [] = []
without pan q (h ∷ b) = cond (is_of pan q h) (without pan q b) (h ∷ without pan q b)

unfoldable pub with_last : List ℕ → ℕ → ℕ → List Holding → List Holding
with_last pan q n [] = []
with_last pan q n (h ∷ b) = cond (is_of pan q h) (record { pan = h.pan; sequence = h.sequence; last = Some n }) h ∷ with_last pan q n b

-- "It derives the keys": a card's master key from one of the issuer's
unfoldable pub master_for : Issuer → List ℕ → List ℕ → ℕ → List ℕ
master_for k issuer pan q = derived issuer card_label (cond k.packed (packed_y pan q) (Y pan q))

-- the counter in the data: offsets 31 and 32
unfoldable pub counter_of : List ℕ → ℕ
counter_of m = be (take 2 (drop 31 m))

unfoldable pub session_for : Issuer → List ℕ → ℕ → List ℕ → List ℕ
session_for k pan q m = subkeys 8 (derived (master_for k k.ac pan q) card_label (session_seed (counter_of m)))

-- "an ARQC (01's for the 65 bytes sent and the counter in them)"
unfoldable pub arqc_for : Issuer → List ℕ → ℕ → List ℕ → List ℕ
arqc_for k pan q m = cryptogram_of (session_for k pan q m) Arqc (counter_of m) m

-- "requires that counter above the last one, if any"
abbrev pub is_above : ℕ → Option ℕ → Bool
is_above n None = true
is_above n (Some l) = ltb l n

-- "wraps PIN, block and unblock commands under the cryptogram that the caller names": header and message
unfoldable pub is_command : ℕ → Bool
is_command i = eqb i 0x24 || (eqb i 0x1e || eqb i 0x18)

unfoldable pub script_for : Issuer → List ℕ → ℕ → ℕ → List ℕ → List ℕ → List ℕ
script_for k pan q i g pin =
    cond (eqb i 0x24)
    (let h = 0x84 ∷ 0x24 ∷ 0x00 ∷ 0x02 ∷ [] in h ++ message (derived (master_for k k.smi pan q) card_label g) h 0x87 (encipher (derived (master_for k k.smc pan q) card_label g) (pin_block pin)))
    (let h = 0x84 ∷ i ∷ 0x00 ∷ 0x00 ∷ [] in h ++ message (derived (master_for k k.smi pan q) card_label g) h 0x81 [])

-- a call is refused by the first check that strikes; 0 where none does
pub data Strike : Type 0 where
  strikes : Bool → Refusal → Strike

abbrev pub first_of : List Strike → ℕ
first_of [] = 0
first_of (strikes b r ∷ cs) = cond b (number r) (first_of cs)

-- "adding checks 2, 20, 21; checking 2, 19, 22, 23; forgetting 2, 19; wrapping 2, 19, 12, 3; a wrong length or kind of command is 1 ahead of all"
unfoldable pub due : Issuer → List Holding → DeskCall → ℕ
due k b (Add pan q) =
    first_of (strikes (not (card_fits pan q)) CardNumber ∷ strikes (holds pan q b) AlreadyHeld ∷ strikes (leb 64 (length b)) TableFull ∷ [])
due k b (Forget pan q) = first_of (strikes (not (card_fits pan q)) CardNumber ∷ strikes (not (holds pan q b)) UnknownCard ∷ [])
due k b (Check pan q m arqc csu) =
    first_of
    (strikes (not (eqb (length m) 65 && (eqb (length arqc) 8 && eqb (length csu) 4))) Input
    ∷ strikes (not (card_fits pan q)) CardNumber
    ∷ strikes (not (holds pan q b)) UnknownCard
    ∷ strikes (not (same (arqc_for k pan q m) arqc)) ArqcDiffers
    ∷ strikes (not (is_above (counter_of m) (last_of pan q b))) CounterNotAbove
    ∷ [])
due k b (Wrap pan q i g pin buffer place) =
    first_of
    (strikes (not (is_command i && eqb (length g) 8)) Input
    ∷ strikes (not (card_fits pan q)) CardNumber
    ∷ strikes (not (holds pan q b)) UnknownCard
    ∷ strikes (eqb i 0x24 && not (pin_fits 0 (length pin) pin)) PinDigits
    ∷ strikes (not (leb (place + length (script_for k pan q i g pin)) (length buffer))) NoRoom
    ∷ [])

-- what an accepted call gives: "gives ARPC for a CSU"; header and message at the named place of the buffer, whose other bytes stay
unfoldable pub gives : Issuer → DeskCall → List ℕ
gives k (Add pan q) = []
gives k (Forget pan q) = []
gives k (Check pan q m arqc csu) = arpc_of (session_for k pan q m) arqc csu
gives k (Wrap pan q i g pin buffer place) = laid buffer place (script_for k pan q i g pin)

-- and a refused one: its number only, every lent byte as it was
abbrev pub leaves : DeskCall → List ℕ
leaves (Add pan q) = []
leaves (Forget pan q) = []
leaves (Check pan q m arqc csu) = replicate 8 0
leaves (Wrap pan q i g pin buffer place) = buffer

-- what an accepted call does to the book: "A forgotten card added again starts with no last counter"
abbrev pub writes : DeskCall → List Holding → List Holding
writes (Add pan q) b = record { pan = pan; sequence = q; last = None } ∷ b
writes (Forget pan q) b = without pan q b
writes (Check pan q m arqc csu) b = with_last pan q (counter_of m) b
writes (Wrap pan q i g pin buffer place) b = b

-- the book after a run, the latest call first: "a refusal changes no entry"
unfoldable pub book : Issuer → List DeskCall → List Holding
book k [] = []
book k (c ∷ cs) = cond (eqb (due k (book k cs) c) 0) (writes c (book k cs)) (book k cs)

-- a call's number after a run
abbrev pub due_after : Issuer → List DeskCall → DeskCall → ℕ
due_after k cs c = due k (book k cs) c
