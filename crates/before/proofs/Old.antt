-- The rules of before, computed. Assumes nothing.
use mathlib.Core.Path.{refl}
use Rattle.octets.specs.Numbers.{be, le}
use Rattle.octets.specs.Same.{same}
use Rattle.octets.specs.Digits.{digits, hex_digit, hex_octet, hex_value}
use Rattle.shapes.specs.Length.{largest, largest_short, length_field, field_says}
use Rattle.shapes.specs.Shape.{length_of_under, place_of_under, tag_fits, code_head, body_under, body_size_under, tag_of, data_of_under, body_of_under, code_in_under, shape_under}
use Rattle.shapes.specs.Command.{header_of, tag_for, length_for, is_for, listed, first_of}
use Rattle.pin.specs.PinBlock.{pin_fits, nibbles, well_formed, pin_of}
use Rattle.pin.specs.CounterBlock.{counters_of}
use Rattle.pin.specs.Answers.{found, read_block}
use Rattle.transaction.specs.Transaction.{pending_fits, rest_fits}
use Rattle.card.specs.Record.{sound}
use Rattle.card.specs.Calls.{judged_under, due_under, after_under, judged_script}
use Rattle.card.specs.Personalise.{personalised}
use Rattle.lines.specs.Lines.{lines_from, legible, octet_of, octets_of, hexadecimal, readable_under, hex_text, line_for}
use Rattle.lines.specs.Answers.{octets_for, replied}
use Rattle.frames.specs.Frames.{part, personalised_by_under, starts, overlong, called_under, calling_under, framed_under, answer_to_under}
use Rattle.trace.specs.Traced.{answers_under, traced_under}
use Rattle.octets.specs.Lengths.{key_fits}
use Rattle.shapes.specs.Answers.{shaped_under}
use Rattle.shapes.specs.Shape.{size_of_under}
use Rattle.message.specs.Code.{given}
use Rattle.message.specs.Answers.{open_number_under, opened_under, wrap_number_under}
use Rattle.before.specs.Cases.{CasesBefore}

pub cases_before : CasesBefore
unfolding key_fits shaped_under size_of_under given open_number_under opened_under wrap_number_under largest largest_short length_field field_says length_of_under place_of_under tag_fits code_head body_under body_size_under tag_of data_of_under body_of_under code_in_under shape_under header_of tag_for length_for is_for listed first_of judged_script be le same digits hex_digit hex_octet hex_value pin_fits nibbles well_formed pin_of counters_of found read_block pending_fits rest_fits sound judged_under due_under after_under personalised lines_from legible octet_of octets_of hexadecimal readable_under hex_text line_for octets_for replied part personalised_by_under starts overlong called_under calling_under framed_under answer_to_under answers_under traced_under
cases_before =
    record {
      byte_80 = λ s. refl;
      byte_7f = λ a b c d. refl;
      byte_81 = λ a b c d. refl;
      opens_1_4 = refl;
      refused_1_4 = refl;
      refused_4_8 = λ a b c d. refl;
      wraps_1_3 = refl;
      wraps_128 = refl;
      wraps_3 = refl;
      wraps_0 = refl;
      too_long = λ h. refl;
      seven = λ h. refl;
      a_byte_more = λ h. refl;
      whole_1 = refl;
      whole_4 = refl;
    }
