-- 01, Examples on each side: "Marked P: to be shown true of the definitions as a single table under a single statement." Each row has the whole answer
-- and, of a call, the whole record after it. Assumes nothing.
use Rattle.std.specs.Prelude.{ℕ, ◌≡◌, true, false, List, [], ◌∷◌, ◌++◌, set, replicate, Ok, Err}
use Rattle.answers.specs.declared.Refusal.TheVariants.{ShapeWrong, PinFormat}
use Rattle.shapes.specs.Answers.{found, shaped}
use Rattle.keys.specs.CardNumber.{Y}
use Rattle.pin.specs.Answers.{write_pin, read_pin}
use Rattle.cryptogram.specs.declared.Kind.TheVariants.{Arqc, Tc, Aac}
use Rattle.cryptogram.specs.Data.{card_data}
use Rattle.transaction.specs.Transaction.{none, spoilt, just_opened}
use Rattle.card.specs.declared.Card.{Card}
use Rattle.card.specs.Record.{card_of, counters_at, with_transaction}
use Rattle.card.specs.Calls.{Open, Close, Withdraw, Order, new_pin, new_mark, pend_all, plain, step}

-- a record with PIN 1234 at a transaction counter, a session counter and a failure counter; one that is open; and that one
-- spoilt, with orders pending
abbrev pub card_at : ℕ → ℕ → ℕ → Card
card_at atc session failures =
    card_of
    (record { ac = replicate 32 0; smi = replicate 32 0; smc = replicate 32 0 })
    (record { pin = 1 ∷ 2 ∷ 3 ∷ 4 ∷ replicate 8 0; count = 4; mark = false })
    3
    atc
    (counters_at session failures 0 0)
    none

abbrev pub idle : Card
idle = card_at 1 1 0

abbrev pub open_at : ℕ → Card
open_at failures = with_transaction (card_at 1 1 failures) (just_opened false (replicate 8 0))

abbrev pub spoilt_at : ℕ → List Order → Card
spoilt_at failures os = with_transaction (card_at 1 1 failures) (spoilt (pend_all os (just_opened false (replicate 8 0))))

-- a new PIN and the mark
abbrev pub both : List Order
both = new_pin (5 ∷ 6 ∷ 7 ∷ 8 ∷ 9 ∷ replicate 7 0) 5 ∷ new_mark true ∷ []

-- a message with a given length field, n bytes of data, and four bytes for its code
abbrev pub message_of : List ℕ → ℕ → ℕ → ℕ → ℕ → ℕ → List ℕ
message_of field n a b c d = 0x81 ∷ (field ++ (replicate n 0xa5 ++ 0x8e ∷ 0x04 ∷ a ∷ b ∷ c ∷ d ∷ []))

-- the data with counter 1 and a byte at offset 36
abbrev pub data_with : ℕ → List ℕ
data_with byte = set (set (replicate 65 0) 32 1) 36 byte

-- P2 as Wish 3 has it, P10 as Wish 1 has it: "In P10 byte 80 is still 4, and 81 80 with 128 bytes is good; 81 7f is 4."
pub record Table : Type 0 where
  pub P1 : Y (1 ∷ 2 ∷ 3 ∷ 4 ∷ 5 ∷ 6 ∷ 7 ∷ 8 ∷ 9 ∷ 0 ∷ 1 ∷ 2 ∷ 3 ∷ 4 ∷ 5 ∷ 6 ∷ 7 ∷ 1 ∷ []) 95 ≡ 0x38 ∷ 0x4e ∷ 0x5a ∷ 0x0c ∷ 0x22 ∷ 0x38 ∷ 0x47 ∷ 0x5f ∷ []
  pub P2 : Y (1 ∷ 2 ∷ 3 ∷ 4 ∷ 5 ∷ 6 ∷ 7 ∷ 8 ∷ 9 ∷ 0 ∷ 1 ∷ 2 ∷ []) 0 ≡ 0x00 ∷ 0x0c ∷ 0x22 ∷ 0x38 ∷ 0x4e ∷ 0x5a ∷ 0x0c ∷ 0x00 ∷ []
  pub P3 : write_pin (1 ∷ 2 ∷ 3 ∷ 4 ∷ 5 ∷ 6 ∷ 7 ∷ []) ≡ Ok (0x27 ∷ 0x12 ∷ 0x34 ∷ 0x56 ∷ 0x7f ∷ 0xff ∷ 0xff ∷ 0xff ∷ [])
  pub P4 : write_pin (1 ∷ 2 ∷ 3 ∷ 4 ∷ []) ≡ Ok (0x24 ∷ 0x12 ∷ 0x34 ∷ 0xff ∷ 0xff ∷ 0xff ∷ 0xff ∷ 0xff ∷ [])
  pub P5 : write_pin (1 ∷ 2 ∷ 3 ∷ 4 ∷ 5 ∷ 6 ∷ 7 ∷ 8 ∷ 9 ∷ 0 ∷ 1 ∷ 2 ∷ []) ≡ Ok (0x2c ∷ 0x12 ∷ 0x34 ∷ 0x56 ∷ 0x78 ∷ 0x90 ∷ 0x12 ∷ 0xff ∷ [])
  pub P6 : read_pin (0x24 ∷ 0x12 ∷ 0x34 ∷ 0x5f ∷ 0xff ∷ 0xff ∷ 0xff ∷ 0xff ∷ []) ≡ Err PinFormat
  pub P7 : read_pin (0x23 ∷ 0x12 ∷ 0x3f ∷ 0xff ∷ 0xff ∷ 0xff ∷ 0xff ∷ 0xff ∷ []) ≡ Err PinFormat
  pub P8 : (a b c d : ℕ) → shaped (message_of (0x00 ∷ []) 0 a b c d) ≡ Ok (found 0x81 2 0)
  pub P9 : (a b c d : ℕ) → shaped (0x81 ∷ 0x00 ∷ 0x8e ∷ 0x05 ∷ a ∷ b ∷ c ∷ d ∷ []) ≡ Err ShapeWrong
  pub P10_80 : (s : List ℕ) → shaped (0x81 ∷ 0x80 ∷ s) ≡ Err ShapeWrong
  pub P10_7f : (a b c d : ℕ) → shaped (message_of (0x7f ∷ []) 127 a b c d) ≡ Ok (found 0x81 2 127)
  pub P10_81_80 : (a b c d : ℕ) → shaped (message_of (0x81 ∷ 0x80 ∷ []) 128 a b c d) ≡ Ok (found 0x81 3 128)
  pub P10_81_7f : (s : List ℕ) → shaped (0x81 ∷ 0x81 ∷ 0x7f ∷ s) ≡ Err ShapeWrong
  pub P11_arqc : card_data Arqc 1 (set (replicate 65 0) 36 0x25) ≡ data_with 0xa5
  pub P11_tc : card_data Tc 1 (set (replicate 65 0) 36 0x25) ≡ data_with 0x95
  pub P11_aac : card_data Aac 1 (set (replicate 65 0) 36 0x25) ≡ data_with 0x85
  pub P12_atc : step (card_at 65535 1 0) (Open (replicate 65 0)) ≡ plain (card_at 65535 1 0) 7
  pub P12_session : step (card_at 1 65535 0) (Open (replicate 65 0)) ≡ plain (card_at 1 65535 0) 7
  pub P13 : step idle Withdraw ≡ plain idle 0
  pub P14 : step (spoilt_at 0 both) Close ≡ plain idle 10
