-- Wrapping a command (Wish 7: "wraps PIN, block and unblock commands under the cryptogram that the caller names"; "wrapping 2, 19, 12, 3"; "a wrong length or kind
-- of command is 1 ahead of all"). At the named place the 4 bytes of the header, and then the message. Assumes nothing.
use Rattle.std.specs.Prelude.{ℕ, ◌+◌, Bool, true, cond, List, [], ◌++◌, eqb, leb, length, Result, Ok, Err}
use Rattle.answers.specs.declared.Refusal.{Refusal}
use Rattle.answers.specs.declared.Refusal.TheVariants.{Input, CardNumber, NoRoom, PinDigits, UnknownCard}
use Rattle.answers.specs.Refusals.{number}
use Rattle.octets.specs.Laid.{laid}
use Rattle.gost.specs.Gost.{encipher}
use Rattle.derive.specs.Derivation.{derived, card_label}
use Rattle.keys.specs.CardNumber.{card_fits}
use Rattle.pin.specs.PinBlock.{pin_fits, pin_block}
use Rattle.shapes.specs.declared.command.Command.{Command}
use Rattle.shapes.specs.declared.command.Command.TheVariants.{SetPin, SetMark, ClearMark}
use Rattle.shapes.specs.Command.{header_of, tag_for}
use Rattle.message.specs.Code.{message}
use Rattle.message.specs.Answers.{Written}
use Rattle.table.specs.Table.{held}
use Rattle.desk.specs.declared.Desk.{Desk}
use Rattle.desk.specs.Desk.{id_of, master_key}

-- the command of an instruction byte; another than the three is 1
unfoldable pub ordered : ℕ → Result Command Refusal
ordered n = cond (eqb n 0x24) (Ok SetPin) (cond (eqb n 0x1e) (Ok SetMark) (cond (eqb n 0x18) (Ok ClearMark) (Err Input)))

-- a card's session key for scripts
unfoldable pub script_of : Bool → List ℕ → List ℕ → ℕ → List ℕ → List ℕ
script_of packed issuer pan sequence cryptogram = derived (master_key packed issuer pan sequence) card_label cryptogram

-- a PIN is looked at where the command sets one
unfoldable pub pin_good : Command → List ℕ → Bool
pin_good SetPin pin = pin_fits 0 (length pin) pin
pin_good SetMark pin = true
pin_good ClearMark pin = true

-- the data of a command: the PIN block under the SMC key; of the mark there are none
unfoldable pub carried : Command → List ℕ → List ℕ → List ℕ
carried SetPin smc pin = encipher smc (pin_block pin)
carried SetMark smc pin = []
carried ClearMark smc pin = []

-- header and message, the code under the SMI key
unfoldable pub script : Command → List ℕ → List ℕ → List ℕ
script c smi d = header_of c ++ message smi (header_of c) (tag_for c) d

abbrev pub unwritten : List ℕ → Refusal → Written
unwritten b q = record { code = number q; buffer = b }

-- a string at a place of a lent buffer, where it fits; else 3
unfoldable pub writes : List ℕ → List ℕ → ℕ → Written
writes s b place = cond (leb (place + length s) (length b)) (record { code = 0; buffer = laid b place s }) (unwritten b NoRoom)

-- 12, 3
unfoldable pub wraps_command : Command → List ℕ → List ℕ → List ℕ → List ℕ → ℕ → Written
wraps_command c smi smc pin b place = cond (pin_good c pin) (writes (script c smi (carried c smc pin)) b place) (unwritten b PinDigits)

-- 2, 19, then the rest
unfoldable pub wraps_order : Desk → List ℕ → ℕ → Command → List ℕ → List ℕ → List ℕ → ℕ → Written
wraps_order d pan sequence c cryptogram pin b place =
    cond (card_fits pan sequence)
    (cond (held (id_of pan sequence) d.places)
    (wraps_command c (script_of d.packed d.smi pan sequence cryptogram) (script_of d.packed d.smc pan sequence cryptogram) pin b place)
    (unwritten b UnknownCard))
    (unwritten b CardNumber)

-- 1 for the kind of command and for the cryptogram
abbrev pub wraps_listed : Desk → List ℕ → ℕ → Result Command Refusal → List ℕ → List ℕ → List ℕ → ℕ → Written
wraps_listed d pan sequence (Ok c) cryptogram pin b place = cond (eqb (length cryptogram) 8) (wraps_order d pan sequence c cryptogram pin b place) (unwritten b Input)
wraps_listed d pan sequence (Err q) cryptogram pin b place = unwritten b q

unfoldable pub wraps : Desk → List ℕ → ℕ → ℕ → List ℕ → List ℕ → List ℕ → ℕ → Written
wraps d pan sequence instruction cryptogram pin b place = wraps_listed d pan sequence (ordered instruction) cryptogram pin b place
