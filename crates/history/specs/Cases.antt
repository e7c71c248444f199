-- What the table of the calls says once, in a computed case each: a slip there, made in the code alike, is refused here. Assumes nothing.
use Rattle.std.specs.Prelude.{ℕ, ◌≡◌, true, false, List, [], ◌∷◌, length, replicate, Result, Ok, is_err}
use Rattle.answers.specs.declared.Refusal.{Refusal}
use Rattle.octets.specs.Same.{same}
use Rattle.shapes.specs.declared.command.Command.TheVariants.{SetPin}
use Rattle.shapes.specs.Shape.{length_of, tag_of, data_of, shape}
use Rattle.shapes.specs.Command.{command_of}
use Rattle.gost.specs.Gost.{subkeys, encipher}
use Rattle.hash.specs.Hash.{hash256}
use Rattle.derive.specs.Derivation.{derived, card_label}
use Rattle.pin.specs.declared.Pin.{Pin}
use Rattle.pin.specs.Answers.{decipher_pin, found}
use Rattle.message.specs.Code.{code_fits}
use Rattle.message.specs.Answers.{open_number, wrap_number}
use Rattle.cryptogram.specs.declared.Kind.TheVariants.{Arqc, Aac}
use Rattle.cryptogram.specs.Cryptogram.{cryptogram_of, arpc_of}
use Rattle.transaction.specs.Transaction.{none, spoilt, just_opened}
use Rattle.card.specs.declared.Card.{Card}
use Rattle.card.specs.declared.Reply.{Reply}
use Rattle.card.specs.Record.{card_of, counters_at, with_transaction, with_tries, with_counters}
use Rattle.card.specs.Keys.{smi_key, smc_key}
use Rattle.card.specs.Calls.{Call, Open, IssuerAnswer, Script, Close, Withdraw, Counters, arpc_for, gives, new_pin, new_mark, orders, plain, step, CheckPin, pin_or_none}
use Rattle.card.specs.Personalise.{blank, personalised}
use Rattle.history.specs.Examples.{card_at, idle, open_at, spoilt_at, both, message_of}

-- a blocked record that holds another number in each field, with a count and a PIN; and one that is personalised to it
abbrev pub blocked_with : ℕ → List ℕ → Card
blocked_with n p =
    card_of
    (record { ac = replicate 32 1; smi = replicate 32 2; smc = replicate 32 3 })
    (record { pin = p; count = n; mark = true })
    2
    0x0104
    (counters_at 5 6 7 8)
    none

abbrev pub blocked : Card
blocked = blocked_with 4 (1 ∷ 2 ∷ 3 ∷ 4 ∷ replicate 8 0)

abbrev pub loaded_with : ℕ → List ℕ → ℕ → Reply
loaded_with mark block tries =
    personalised (replicate 32 1) (replicate 32 2) (replicate 32 3) 0x0104 (0 ∷ 5 ∷ 0 ∷ 6 ∷ 0 ∷ 7 ∷ 0 ∷ 8 ∷ []) mark block tries

-- an open record with a PIN decipherment counter
abbrev pub misread_at : ℕ → Card
misread_at n = with_counters (open_at 0) 1 (counters_at 1 0 n 0)

-- the session key of the key of 32 bytes n at a counter
abbrev pub key_at : ℕ → ℕ → ℕ → List ℕ
key_at n high low = derived (replicate 32 n) card_label (high ∷ low ∷ 0xf0 ∷ replicate 5 0)

-- an unsound record is 1 and stays
abbrev pub Unsound : Card → Call → Type 0
Unsound r c = step r c ≡ plain r 1

pub record Cases : Type 0 where
  -- "Order: Open 6, 1, 7. Issuer answer 6, 1, 11. .. Script 6, 1 (header), 4, 5, 7": of each two neighbours a call that the first refuses, whatever the
  -- second says; 8 goes ahead of 9 by DiffersExactly, and in a sound record 6 and 10 never meet
  pub open_6_1 : step (open_at 0) (Open []) ≡ plain (open_at 0) 6
  pub open_1_7 : step (card_at 65535 1 0) (Open []) ≡ plain (card_at 65535 1 0) 1
  pub answer_6_1 : step idle (IssuerAnswer [] []) ≡ plain idle 6
  pub answer_1_11 : step (open_at 0) (IssuerAnswer [] []) ≡ plain (open_at 0) 1
  pub script_6_1 : step idle (Script [] []) ≡ plain idle 6
  pub script_1_4 : step (open_at 0) (Script [] []) ≡ plain (spoilt_at 0 []) 1
  pub script_4_5 : step (open_at 0) (Script (replicate 4 0) []) ≡ plain (spoilt_at 0 []) 4
  pub script_5_7 : step (open_at 65535) (Script (replicate 4 0) (message_of (0x00 ∷ []) 0 1 2 3 4)) ≡ plain (spoilt_at 65535 []) 5
  pub script_7_8 : step (open_at 65535) (Script (0x84 ∷ 0x1e ∷ 0x00 ∷ 0x00 ∷ []) (message_of (0x00 ∷ []) 0 1 2 3 4)) ≡ plain (spoilt_at 65535 []) 7
  -- a PIN check: "order 6, 1, 15, 7 when that counter is 65535, 9, 14; none of them spoils" (Wish 4)
  pub check_6_1 : step idle (CheckPin []) ≡ plain idle 6
  pub check_1_15 : let r = with_tries (open_at 0) 0 in step r (CheckPin []) ≡ plain r 1
  pub check_15_7 : (b : List ℕ) → length b ≡ 8 → let r = with_tries (misread_at 65535) 0 in step r (CheckPin b) ≡ plain r 15
  pub check_7_9 : (b : List ℕ) → length b ≡ 8 → step (misread_at 65535) (CheckPin b) ≡ plain (misread_at 65535) 7
  pub check_9 : (b : List ℕ) → length b ≡ 8 → is_err (decipher_pin (smc_key (misread_at 0)) b) ≡ true → step (misread_at 0) (CheckPin b) ≡ plain (misread_at 1) 9
  pub check_14 : (b : List ℕ) → length b ≡ 8 → decipher_pin (smc_key (misread_at 0)) b ≡ Ok (found (1 ∷ 2 ∷ 3 ∷ 5 ∷ []))
      → step (misread_at 0) (CheckPin b) ≡ plain (with_tries (misread_at 0) 2) 14
  pub check_0 : (b : List ℕ) → length b ≡ 8 → decipher_pin (smc_key (with_tries (misread_at 0) 1)) b ≡ Ok (found (1 ∷ 2 ∷ 3 ∷ 4 ∷ []))
      → step (with_tries (misread_at 0) 1) (CheckPin b) ≡ plain (misread_at 0) 0
  -- "6 .. other calls but Withdraw with none open; issuer answer after an AAC", "9 .. PIN block format wrong", "11 .. ARPC differs"
  pub close_6 : step idle Close ≡ plain idle 6
  pub counters_6 : step idle Counters ≡ plain idle 6
  pub answer_aac : let r = with_transaction idle (just_opened true (replicate 8 0)) in step r (IssuerAnswer (replicate 8 0) (replicate 4 0)) ≡ plain r 6
  pub script_9 : (h m : List ℕ) → length h ≡ 4 → shape m ≡ true → command_of h (tag_of m) (length_of m) ≡ Ok SetPin → code_fits (smi_key (open_at 0)) h m ≡ true
      → is_err (decipher_pin (smc_key (open_at 0)) (data_of m)) ≡ true → step (open_at 0) (Script h m) ≡ plain (spoilt_at 0 []) 9
  pub answer_11 : (arpc csu : List ℕ) → length arpc ≡ 8 → length csu ≡ 4 → same arpc (arpc_for (open_at 0) csu) ≡ false → step (open_at 0) (IssuerAnswer arpc csu) ≡ plain (open_at 0) 11
  -- "Withdraw: drops what is pending and ends the transaction."
  pub withdrawn : step (spoilt_at 0 both) Withdraw ≡ plain idle 0
  -- "Any unsound record gets 1 ahead of all other checks and comes back unchanged, Script included."
  pub none_loaded : (c : Call) → Unsound blank c
  pub three_digits : Unsound (blocked_with 3 (1 ∷ 2 ∷ 3 ∷ replicate 9 0)) Close
  pub thirteen_digits : Unsound (blocked_with 13 (replicate 12 0)) Withdraw
  pub digit_of_ten : Unsound (blocked_with 4 (1 ∷ 2 ∷ 3 ∷ 10 ∷ replicate 8 0)) (Script [] [])
  pub unused_place : Unsound (blocked_with 4 (1 ∷ 2 ∷ 3 ∷ 4 ∷ 5 ∷ replicate 7 0)) Counters
  pub four_tries : Unsound (with_tries idle 4) Withdraw
  pub spoilt_idle : Unsound (with_transaction idle (spoilt none)) (Script [] [])
  -- "keys AC, SMI, SMC, 96 bytes, counter 2, counter block 8, mark 00 or 01, clear PIN block 8; refusals 1, then 9"
  pub loads : loaded_with 1 (0x24 ∷ 0x12 ∷ 0x34 ∷ 0xff ∷ 0xff ∷ 0xff ∷ 0xff ∷ 0xff ∷ []) 2 ≡ plain blocked 0
  pub loads_1_9 : loaded_with 2 (replicate 8 0) 3 ≡ plain blank 1
  pub loads_tries_9 : loaded_with 1 (replicate 8 0) 4 ≡ plain blank 1
  pub loads_9 : loaded_with 1 (replicate 8 0) 3 ≡ plain blank 9
  -- "24 .. sets the pending PIN; 1e and 18 .. set and clear the pending mark."
  pub sets_pin : (x : Result Pin Refusal) → orders (command_of (0x84 ∷ 0x24 ∷ 0x00 ∷ 0x02 ∷ []) 0x87 8) x ≡ new_pin (pin_or_none x).digits (pin_or_none x).count ∷ []
  pub sets_mark : (x : Result Pin Refusal) → orders (command_of (0x84 ∷ 0x1e ∷ 0x00 ∷ 0x00 ∷ []) 0x81 0) x ≡ new_mark true ∷ []
  pub clears_mark : (x : Result Pin Refusal) → orders (command_of (0x84 ∷ 0x18 ∷ 0x00 ∷ 0x00 ∷ []) 0x81 0) x ≡ new_mark false ∷ []
  -- "the session key comes from the new counter. Kind is AAC if the kept block mark is set, else ARQC."; the answer's and the counters' key from the same
  pub arqc : (d : List ℕ) → gives idle (Open d) ≡ record { number = 0; kind = 0x80; bytes = cryptogram_of (subkeys 8 (key_at 0 0 2)) Arqc 2 d }
  pub aac : (d : List ℕ) → gives blocked (Open d) ≡ record { number = 0; kind = 0x00; bytes = cryptogram_of (subkeys 8 (key_at 1 1 5)) Aac 0x0105 d }
  pub arpc : (u : List ℕ) → arpc_for (open_at 0) u ≡ arpc_of (subkeys 8 (key_at 0 0 1)) (replicate 8 0) u
  pub counters : gives blocked Counters ≡ record { number = 0; kind = 0; bytes = encipher (hash256 (key_at 1 1 4)) (0 ∷ 5 ∷ 0 ∷ 6 ∷ 0 ∷ 7 ∷ 0 ∷ 8 ∷ []) }
  -- opening: "1, 4, 8"; wrapping: 1 (key, header, tag, L), then 3
  pub opens_key_4 : open_number [] (replicate 4 0) [] ≡ 1
  pub opens_header_4 : open_number (replicate 32 0) [] [] ≡ 1
  pub opens_4 : open_number (replicate 32 0) (replicate 4 0) [] ≡ 4
  pub opens_8 : (m : List ℕ) → shape m ≡ true → code_fits (replicate 32 0) (replicate 4 0) m ≡ false → open_number (replicate 32 0) (replicate 4 0) m ≡ 8
  pub wraps_1_3 : wrap_number [] (replicate 4 0) 0x81 0 7 0 ≡ 1
  pub wraps_tag : wrap_number (replicate 32 0) (replicate 4 0) 0x82 0 8 0 ≡ 1
  pub wraps_256 : wrap_number (replicate 32 0) (replicate 4 0) 0x81 256 300 0 ≡ 1
  pub wraps_header_3 : wrap_number (replicate 32 0) [] 0x81 0 7 0 ≡ 1
  pub wraps_tag_3 : wrap_number (replicate 32 0) (replicate 4 0) 0x82 0 7 0 ≡ 1
  pub wraps_256_3 : wrap_number (replicate 32 0) (replicate 4 0) 0x81 256 7 0 ≡ 1
  pub wraps_past : wrap_number (replicate 32 0) (replicate 4 0) 0x81 0 8 9 ≡ 3
  pub wraps_3 : wrap_number (replicate 32 0) (replicate 4 0) 0x81 0 8 1 ≡ 3
  pub wraps_0 : wrap_number (replicate 32 0) (replicate 4 0) 0x81 0 9 1 ≡ 0
