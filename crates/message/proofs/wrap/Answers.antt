use mathlib.Core.Path.{sym, ap, ◌∙◌}
use Rattle.answers.specs.Answers.{number_told}
use lib.ListN.{length}
use Rattle.message.proofs.WrapLaws.{accepted, wrap_err, place_fits, tag_room, place_fits_first, data_room, place_fits_second, code_room, wrap_done}
use borrow.Author.Rules.{rules}
use Rattle.message.proofs.wrap.Goals as goal

pub returns-in_err-may_wrap : goal.returns-in_err-may_wrap
returns-in_err-may_wrap c =
    let x = c.args in
    wrap_err x.key.now x.header.now x.tag x.data.now _ x.place _ _ c.may_wrap.ensures c.in_err-may_wrap.was _ c.from_residual.ensures.1

pub slice_bounds-write_tag-count : goal.slice_bounds-write_tag-count
slice_bounds-write_tag-count c = let x = c.args in
    let z = sym c.may_wrap.ensures ∙ ap number_told c.in_ok-may_wrap.was in
    place_fits x.key.now x.header.now x.tag x.data.now _ x.place z

pub slice_bounds-write_tag-start : goal.slice_bounds-write_tag-start
slice_bounds-write_tag-start c = let x = c.args in
    let z = sym c.may_wrap.ensures ∙ ap number_told c.in_ok-may_wrap.was in
    let h = place_fits x.key.now x.header.now x.tag x.data.now _ x.place z in
    search rules

pub write_tag-requires : goal.write_tag-requires
write_tag-requires c = let x = c.args in
    let z = sym c.may_wrap.ensures ∙ ap number_told c.in_ok-may_wrap.was in
    ((accepted x.key.now x.header.now x.tag (length x.data.now) (length _) x.place z).most, tag_room x.key.now x.header.now x.tag x.data.now _ x.place z)

pub slice_bounds-write_data-count : goal.slice_bounds-write_data-count
slice_bounds-write_data-count c = let x = c.args in
    let z = sym c.may_wrap.ensures ∙ ap number_told c.in_ok-may_wrap.was in
    place_fits_first x.key.now x.header.now x.tag x.data.now _ x.place z c.write_tag.new.part c.write_tag.ensures

pub slice_bounds-write_data-start : goal.slice_bounds-write_data-start
slice_bounds-write_data-start c = let x = c.args in
    let z = sym c.may_wrap.ensures ∙ ap number_told c.in_ok-may_wrap.was in
    let h = place_fits_first x.key.now x.header.now x.tag x.data.now _ x.place z c.write_tag.new.part c.write_tag.ensures in
    search rules

pub write_data-requires : goal.write_data-requires
write_data-requires c = let x = c.args in
    let z = sym c.may_wrap.ensures ∙ ap number_told c.in_ok-may_wrap.was in
    ((accepted x.key.now x.header.now x.tag (length x.data.now) (length _) x.place z).most, data_room x.key.now x.header.now x.tag x.data.now _ x.place z c.write_tag.new.part c.write_tag.ensures)

pub slice_bounds-write_code-count : goal.slice_bounds-write_code-count
slice_bounds-write_code-count c = let x = c.args in
    let z = sym c.may_wrap.ensures ∙ ap number_told c.in_ok-may_wrap.was in
    place_fits_second x.key.now x.header.now x.tag x.data.now _ x.place z c.write_tag.new.part c.write_tag.ensures c.write_data.new.part c.write_data.ensures

pub slice_bounds-write_code-start : goal.slice_bounds-write_code-start
slice_bounds-write_code-start c = let x = c.args in
    let z = sym c.may_wrap.ensures ∙ ap number_told c.in_ok-may_wrap.was in
    let h = place_fits_second x.key.now x.header.now x.tag x.data.now _ x.place z c.write_tag.new.part c.write_tag.ensures c.write_data.new.part c.write_data.ensures in
    search rules

pub write_code-requires : goal.write_code-requires
write_code-requires c = let x = c.args in
    let z = sym c.may_wrap.ensures ∙ ap number_told c.in_ok-may_wrap.was in
    let a = accepted x.key.now x.header.now x.tag (length x.data.now) (length _) x.place z in
    (a.are_given, a.most, code_room x.key.now x.header.now x.tag x.data.now _ x.place z c.write_tag.new.part c.write_tag.ensures c.write_data.new.part c.write_data.ensures)

pub returns : goal.returns
returns c = let x = c.args in
    let z = sym c.may_wrap.ensures ∙ ap number_told c.in_ok-may_wrap.was in
    wrap_done x.key.now x.header.now x.tag x.data.now _ x.place z _ c.write_tag.ensures _ c.write_data.ensures _ c.write_code.ensures
