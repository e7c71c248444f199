-- Numbered refusals (01's table, and those of the wishes): why a call is refused, "given exactly when", and its number. Assumes nothing.
use Rattle.std.specs.Prelude.{ℕ}
use Rattle.answers.specs.declared.Refusal.{Refusal}
use Rattle.answers.specs.declared.Refusal.TheVariants.{Input, CardNumber, NoRoom, ShapeWrong, NotListed, PhaseWrong, CounterFull, CodeDiffers, PinFormat, SpoiltClosed, ArpcDiffers, PinDigits, Unreadable, WrongPin, NoTries, BadObject, TooDeep, TooMany, UnknownCard, AlreadyHeld, TableFull, ArqcDiffers, CounterNotAbove}

abbrev pub number : Refusal → ℕ
-- "a lent input or number that no other row names has not the length or range stated"
number Input = 1
-- "card number not 12 to 19 digits, or sequence number above 99"
number CardNumber = 2
-- "output doesn't fit from the named place"
number NoRoom = 3
-- "message shape wrong, a first byte other than 87 or 81 included"
number ShapeWrong = 4
-- "class, instruction, parameters, tag or L not one listed"
number NotListed = 5
-- "Open while a transaction is open; other calls but Withdraw with none open; issuer answer after an AAC; trace frames 01 to 06 before a record exists"; a PIN check and frame 07 likewise (Wish 4)
number PhaseWrong = 6
-- "Open: transaction or session counter is 65535. Script: failure counter is 65535"; a PIN check "when that counter is 65535" (Wish 4)
number CounterFull = 7
-- "code differs"
number CodeDiffers = 8
-- "PIN block format wrong"
number PinFormat = 9
-- "Close of a spoilt transaction"
number SpoiltClosed = 10
-- "ARPC differs"
number ArpcDiffers = 11
-- "PIN to be written is not 4 to 12 digits"
number PinDigits = 12
-- "trace line unreadable"
number Unreadable = 13
-- "14 wrong PIN" (Wish 4)
number WrongPin = 14
-- "15 no tries left" (Wish 4)
number NoTries = 15
-- "16 bad object (tag out of place, bad length form, past its holder's end, 9f18 not of 4 bytes, empty input)" (Wish 6)
number BadObject = 16
-- "17 deeper than four" (Wish 6)
number TooDeep = 17
-- "18 more than 32 objects" (Wish 6)
number TooMany = 18
-- "19 unknown card" (Wish 7)
number UnknownCard = 19
-- "20 card already held" (Wish 7)
number AlreadyHeld = 20
-- "21 no room" (Wish 7)
number TableFull = 21
-- "22 ARQC differs" (Wish 7)
number ArqcDiffers = 22
-- "23 counter not above the last" (Wish 7)
number CounterNotAbove = 23
