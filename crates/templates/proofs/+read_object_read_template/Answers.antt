use Rattle.std.proofs.Common.{rules}
use Rattle.templates.proofs.ReadLaws.{head_small_enough, object_stopped, object_data, object_few, object_kept, object_end, object_room, object_deeper, object_falls, object_inside, object_inner, read_none, template_stopped, template_size, template_room, template_place, template_falls, template_left, template_onward}
use Rattle.templates.proofs.+read_object_read_template.Goals as goal

pub read_object-is_good-fits-requires : goal.read_object-is_good-fits-requires
read_object-is_good-fits-requires t c = search (head_small_enough, rules)

pub read_object-returns-in-Err : goal.read_object-returns-in-Err
read_object-returns-in-Err t c = search (object_stopped, rules)

pub read_object-overflow_add-data : goal.read_object-overflow_add-data
read_object-overflow_add-data t c = search (object_data, rules)

pub read_object-kept-kept-requires : goal.read_object-kept-kept-requires
read_object-kept-kept-requires t c = search (object_few, rules)

pub read_object-returns-then-not-is_template : goal.read_object-returns-then-not-is_template
read_object-returns-then-not-is_template t c = search (object_kept, rules)

pub read_object-overflow_add-end : goal.read_object-overflow_add-end
read_object-overflow_add-end t c = search (object_end, rules)

pub read_object-slice_bounds-read_template-end : goal.read_object-slice_bounds-read_template-end
read_object-slice_bounds-read_template-end t c = search (object_room, rules)

pub read_object-overflow_add-level : goal.read_object-overflow_add-level
read_object-overflow_add-level t c = search (object_deeper, rules)

pub read_object-read_template-requires : goal.read_object-read_template-requires
read_object-read_template-requires t c = search (object_falls, object_inside, rules)

pub read_object-returns : goal.read_object-returns
read_object-returns t c = search (object_inner, rules)

pub read_template-returns-then-xs-eq0 : goal.read_template-returns-then-xs-eq0
read_template-returns-then-xs-eq0 t c = search (read_none, rules)

pub read_template-returns-then-is_some : goal.read_template-returns-then-is_some
read_template-returns-then-is_some t c = search (template_stopped, rules)

pub read_template-overflow_add-size : goal.read_template-overflow_add-size
read_template-overflow_add-size t c = search (template_size, rules)

pub read_template-slice_bounds-read_template-count : goal.read_template-slice_bounds-read_template-count
read_template-slice_bounds-read_template-count t c = search (template_room, rules)

pub read_template-slice_bounds-read_template-start : goal.read_template-slice_bounds-read_template-start
read_template-slice_bounds-read_template-start t c = search (template_room, rules)

pub read_template-overflow_add-place : goal.read_template-overflow_add-place
read_template-overflow_add-place t c = search (template_place, rules)

pub read_template-read_template-requires : goal.read_template-read_template-requires
read_template-read_template-requires t c = search (template_falls, template_left, rules)

pub read_template-returns : goal.read_template-returns
read_template-returns t c = search (template_onward, rules)
