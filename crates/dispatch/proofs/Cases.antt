-- The cases of the frames: computed, and that 04, 05 and 06 with bytes after change nothing. Assumes nothing.
use Prim.Native.Nat.{ℕ, ◌≤◌}
use native.Mathlib.Omega.{arith}
use mathlib.Core.Path.{◌≡◌, refl}
use mathlib.Core.Bool.{Bool, true, false, cond}
use mathlib.Core.List.{List, ◌∷◌}
use lib.Dec.{eqb}
use lib.ListN.{length}
use borrow.Author.Tests.{ne_eqb, eqb-false}
use Rattle.octets.specs.Numbers.{be, le}
use Rattle.octets.specs.Same.{same}
use Rattle.octets.specs.Digits.{digits, hex_digit, hex_octet, hex_value}
use Rattle.shapes.specs.Length.{largest, largest_short, length_field, field_says}
use Rattle.shapes.specs.Shape.{length_of_under, place_of_under, tag_fits, code_head, body_under, body_size_under, tag_of, data_of_under, body_of_under, code_in_under, shape_under}
use Rattle.shapes.specs.Command.{header_of, tag_for, length_for, is_for, listed, first_of}
use Rattle.pin.specs.PinBlock.{pin_fits, nibbles, well_formed, pin_of}
use Rattle.pin.specs.CounterBlock.{counters_of}
use Rattle.pin.specs.Answers.{found, read_block}
use Rattle.transaction.specs.Transaction.{pending_fits, rest_fits}
use Rattle.card.specs.Record.{sound}
use Rattle.card.specs.Calls.{judged_under, due_under, after_under, plain, CheckPin, step, judged_script}
use Rattle.card.specs.Personalise.{personalised}
use Rattle.lines.specs.declared.Held.{Held}
use Rattle.lines.specs.Lines.{lines_from, legible, octet_of, octets_of, hexadecimal, readable, readable_under, hex_text, line_for}
use Rattle.lines.specs.Answers.{holding, octets_for, replied}
use Rattle.frames.specs.Frames.{part, personalised_by_under, starts, overlong, called_under, calling, calling_under, framed_under, answer_to, answer_to_under}
use Rattle.trace.specs.Traced.{answers_under, traced_under}
use Rattle.dispatch.specs.Cases.{TraceCases}

-- a frame with bytes after, of a record that exists and of none
called_stays : (h : Held) (f b : ℕ) (s : List ℕ) → 4 ≤ f → f ≤ 6 → h.exists ≡ true → (calling h f (b ∷ s)).after ≡ h
unfolding calling_under replied called_under overlong
called_stays h f b s m n e =
    rw (e, ne_eqb f 1 (λ z. omega arith), ne_eqb f 2 (λ z. omega arith), ne_eqb f 3 (λ z. omega arith), ne_eqb (length (b ∷ s)) 0 (λ z. omega arith)) (go (eqb f 4) (eqb f 5) (eqb f 6) refl refl refl)
  where
    go : (x y z : Bool) → eqb f 4 ≡ x → eqb f 5 ≡ y → eqb f 6 ≡ z
        → holding (cond x (overlong h.card) (cond y (plain h.card 1) (cond z (overlong h.card) (step h.card (CheckPin (b ∷ s)))))).card ≡ holding h.card
    go true y z u v w = refl
    go false true z u v w = refl
    go false false true u v w = refl
    go false false false u v w =
        let i : f ≡ 4 → ⊥ = eqb-false f 4 u in
        let j : f ≡ 5 → ⊥ = eqb-false f 5 v in
        let k : f ≡ 6 → ⊥ = eqb-false f 6 w in
        absurd (omega arith)

surplus_stays : (h : Held) (l : List ℕ) (f b : ℕ) (s : List ℕ) → readable l ≡ true → octets_of l ≡ f ∷ b ∷ s → 4 ≤ f → f ≤ 6 → (answer_to h l).after ≡ h
unfolding answer_to_under framed_under calling_under
surplus_stays h l f b s r o m n = rw (r, o, ne_eqb f 0 (λ z. omega arith)) (go h.exists refl)
  where
    go : (x : Bool) → h.exists ≡ x → (calling h f (b ∷ s)).after ≡ h
    go true e = called_stays h f b s m n e
    go false e = rw e

pub trace_cases : TraceCases
unfolding largest largest_short length_field field_says length_of_under place_of_under tag_fits code_head body_under body_size_under tag_of data_of_under body_of_under code_in_under shape_under header_of tag_for length_for is_for listed first_of judged_script be le same digits hex_digit hex_octet hex_value pin_fits nibbles well_formed pin_of counters_of found read_block pending_fits rest_fits sound judged_under due_under after_under personalised lines_from legible octet_of octets_of hexadecimal readable_under hex_text line_for octets_for replied part personalised_by_under starts overlong called_under calling_under framed_under answer_to_under answers_under traced_under
trace_cases =
    record {
      whole = refl;
      two_bytes_more = λ h. refl;
      a_byte_less = λ h. refl;
      no_tries = λ h. refl;
      three_tries = λ h. refl;
      four_tries = λ h. refl;
      mark_of_two = λ h. refl;
      surplus = surplus_stays;
      seven = refl;
      eight = λ h. refl;
      too_long = λ h. refl;
      surplus_04 = refl;
      surplus_05 = refl;
      surplus_06 = refl;
      surplus_open = refl;
      cut_02 = refl;
      cut_03 = refl;
      cut_07 = refl;
      cut_00 = λ h. refl;
    }
