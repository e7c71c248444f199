-- The examples marked P, and the cases of the table, computed. Assumes nothing.
use mathlib.Core.Path.{◌≡◌, refl}
use mathlib.Core.Bool.{true, false}
use mathlib.Core.List.{List, [], ◌∷◌}
use Prim.Native.Nat.{ℕ}
use lib.ListN.{length, replicate}
use borrow.Author.Tests.{eq-eqb}
use Rattle.std.specs.Prelude.{Ok, is_err}
use Rattle.octets.specs.Numbers.{le_octets, be_octets, be, le}
use Rattle.octets.specs.Same.{same}
use Rattle.octets.specs.Digits.{digits, pairs}
use Rattle.shapes.specs.Length.{largest, largest_short, length_field, field_says}
use Rattle.shapes.specs.Shape.{length_of, length_of_under, place_of_under, tag_fits, code_head, body_under, body_size_under, size_of_under, tag_of, data_of, data_of_under, body_of_under, code_in_under, shape, shape_under}
use Rattle.shapes.specs.Command.{header_of, tag_for, length_for, is_for, listed, first_of, command_of}
use Rattle.shapes.specs.Answers.{shaped_under}
use Rattle.cipher.specs.Answers.{block_fits}
use Rattle.keys.specs.CardNumber.{X, sixteen, Y}
use Rattle.pin.specs.PinBlock.{pin_fits, nibbles, fields, pin_block, well_formed, pin_of}
use Rattle.pin.specs.CounterBlock.{counter_block, counters_of}
use Rattle.pin.specs.Answers.{found, write_pin, read_block, read_pin, decipher_pin}
use Rattle.keys.specs.Seeds.{session_seed}
use Rattle.cryptogram.specs.Answers.{kind_number}
use Rattle.cryptogram.specs.Data.{width, widths, fields as dataFields, row, place, counter_place, issuer_place, kind_place, kind_bits, marked, card_data}
use Rattle.transaction.specs.Transaction.{pending_fits, rest_fits}
use Rattle.card.specs.Record.{sound, with_tries}
use Rattle.card.specs.Keys.{session_key_of, smi_key, smc_key, counter_key_of}
use Rattle.shapes.specs.declared.command.Command.TheVariants.{SetPin}
use Rattle.message.specs.Code.{given, code_fits}
use Rattle.message.specs.Answers.{open_number, open_number_under, wrap_number_under}
use Rattle.octets.specs.Lengths.{key_fits}
use Rattle.card.specs.Calls.{IssuerAnswer, Script, plain, step, judged_script, judged_under, arpc_for, cryptogram_for, counters_for, due_under, after_under, CheckPin}
use Rattle.card.specs.Personalise.{personalised}
use Rattle.history.specs.Examples.{open_at, spoilt_at, Table}
use Rattle.history.specs.Cases.{Cases, misread_at}

pub p_table : Table
unfolding le_octets be_octets same digits pairs X sixteen Y pin_fits nibbles fields pin_block well_formed pin_of block_fits write_pin read_block read_pin width widths dataFields row place counter_place issuer_place kind_place kind_bits marked card_data largest largest_short length_field field_says length_of_under place_of_under tag_fits code_head body_under body_size_under tag_of data_of_under body_of_under code_in_under shape_under shaped_under pending_fits rest_fits sound judged_under due_under after_under
p_table =
    record {
      P1 = refl;
      P2 = refl;
      P3 = refl;
      P4 = refl;
      P5 = refl;
      P6 = refl;
      P7 = refl;
      P8 = λ a b c d. refl;
      P9 = λ a b c d. refl;
      P10_80 = λ s. refl;
      P10_7f = λ a b c d. refl;
      P10_81_80 = λ a b c d. refl;
      P10_81_7f = λ s. refl;
      P11_arqc = refl;
      P11_tc = refl;
      P11_aac = refl;
      P12_atc = refl;
      P12_session = refl;
      P13 = refl;
      P14 = refl;
    }

differs_11 : (arpc csu : List ℕ) → length arpc ≡ 8 → length csu ≡ 4 → same arpc (arpc_for (open_at 0) csu) ≡ false
    → step (open_at 0) (IssuerAnswer arpc csu) ≡ plain (open_at 0) 11
unfolding same digits pin_fits pending_fits rest_fits sound judged_under due_under after_under
differs_11 arpc csu a b c = rw (eq-eqb _ _ a, eq-eqb _ _ b, c)

unread_9 : (h m : List ℕ) → length h ≡ 4 → shape m ≡ true → command_of h (tag_of m) (length_of m) ≡ Ok SetPin → code_fits (smi_key (open_at 0)) h m ≡ true
    → is_err (decipher_pin (smc_key (open_at 0)) (data_of m)) ≡ true → step (open_at 0) (Script h m) ≡ plain (spoilt_at 0 []) 9
unfolding same digits pin_fits pending_fits rest_fits sound judged_under judged_script due_under after_under
unread_9 h m a b c d e = rw (eq-eqb _ _ a, b, c, d, e)

check_spent : (b : List ℕ) → length b ≡ 8 → let r = with_tries (misread_at 65535) 0 in step r (CheckPin b) ≡ plain r 15
unfolding same digits pin_fits pending_fits rest_fits sound judged_under due_under after_under
check_spent b l = rw (eq-eqb _ _ l)

check_full : (b : List ℕ) → length b ≡ 8 → step (misread_at 65535) (CheckPin b) ≡ plain (misread_at 65535) 7
unfolding same digits pin_fits pending_fits rest_fits sound judged_under due_under after_under
check_full b l = rw (eq-eqb _ _ l)

check_misread : (b : List ℕ) → length b ≡ 8 → is_err (decipher_pin (smc_key (misread_at 0)) b) ≡ true → step (misread_at 0) (CheckPin b) ≡ plain (misread_at 1) 9
unfolding same digits pin_fits pending_fits rest_fits sound judged_under due_under after_under
check_misread b l n = rw (eq-eqb _ _ l, n)

check_mistaken : (b : List ℕ) → length b ≡ 8 → decipher_pin (smc_key (misread_at 0)) b ≡ Ok (found (1 ∷ 2 ∷ 3 ∷ 5 ∷ [])) → step (misread_at 0) (CheckPin b) ≡ plain (with_tries (misread_at 0) 2) 14
unfolding same digits pin_fits pending_fits rest_fits sound judged_under due_under after_under found
check_mistaken b l e = rw (eq-eqb _ _ l, e)

check_recognised : (b : List ℕ) → length b ≡ 8 → decipher_pin (smc_key (with_tries (misread_at 0) 1)) b ≡ Ok (found (1 ∷ 2 ∷ 3 ∷ 4 ∷ []))
    → step (with_tries (misread_at 0) 1) (CheckPin b) ≡ plain (misread_at 0) 0
unfolding same digits pin_fits pending_fits rest_fits sound judged_under due_under after_under found
check_recognised b l e = rw (eq-eqb _ _ l, e)

opens_differing : (m : List ℕ) → shape m ≡ true → code_fits (replicate 32 0) (replicate 4 0) m ≡ false → open_number (replicate 32 0) (replicate 4 0) m ≡ 8
unfolding open_number_under given key_fits
opens_differing m s c = rw (s, c)

pub cases : Cases
unfolding open_number_under wrap_number_under size_of_under given key_fits same le_octets be_octets be le length_field field_says largest largest_short length_of_under place_of_under tag_fits code_head body_under body_size_under tag_of data_of_under body_of_under code_in_under shape_under header_of tag_for length_for is_for listed first_of digits nibbles well_formed pin_of pin_fits read_block found counters_of counter_block kind_number session_seed session_key_of counter_key_of pending_fits rest_fits sound judged_script judged_under arpc_for cryptogram_for counters_for due_under after_under personalised
cases =
    record {
      open_6_1 = refl;
      open_1_7 = refl;
      answer_6_1 = refl;
      answer_1_11 = refl;
      script_6_1 = refl;
      script_1_4 = refl;
      script_4_5 = refl;
      script_5_7 = refl;
      script_7_8 = refl;
      check_6_1 = refl;
      check_1_15 = refl;
      check_15_7 = check_spent;
      check_7_9 = check_full;
      check_9 = check_misread;
      check_14 = check_mistaken;
      check_0 = check_recognised;
      close_6 = refl;
      counters_6 = refl;
      answer_aac = refl;
      script_9 = unread_9;
      answer_11 = differs_11;
      withdrawn = refl;
      none_loaded = λ c. refl;
      three_digits = refl;
      thirteen_digits = refl;
      digit_of_ten = refl;
      unused_place = refl;
      four_tries = refl;
      spoilt_idle = refl;
      loads = refl;
      loads_1_9 = refl;
      loads_tries_9 = refl;
      loads_9 = refl;
      sets_pin = λ x. refl;
      sets_mark = λ x. refl;
      clears_mark = λ x. refl;
      arqc = λ d. refl;
      aac = λ d. refl;
      arpc = λ u. refl;
      counters = refl;
      opens_key_4 = refl;
      opens_header_4 = refl;
      opens_4 = refl;
      opens_8 = opens_differing;
      wraps_1_3 = refl;
      wraps_tag = refl;
      wraps_256 = refl;
      wraps_header_3 = refl;
      wraps_tag_3 = refl;
      wraps_256_3 = refl;
      wraps_past = refl;
      wraps_3 = refl;
      wraps_0 = refl;
    }
