use Rattle.scripts.proofs.WriteLaws.{tag_room, field_room, template_done, data_source, data_room, data_done}
use Rattle.scripts.proofs.write_object.Goals as goal

pub write_tag-field-requires : goal.write_tag-field-requires
write_tag-field-requires c = let x = c.args in
    (c.requires.tag, tag_room x.out.now x.at x.source.now x.o x.n c.requires)

pub write_length-place-requires : goal.write_length-place-requires
write_length-place-requires c = let x = c.args in
    let w = c.requires in
    let g = c.write_tag-field in
    (w.most, field_room x.out.now x.at x.source.now x.o x.n w g.result g.new.out g.ensures)

pub returns-then-not-is_data : goal.returns-then-not-is_data
returns-then-not-is_data c = search template_done

pub write_data-requires : goal.write_data-requires
write_data-requires c = (search data_source, search data_room)

pub returns : goal.returns
returns c = search data_done
