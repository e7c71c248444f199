use borrow.Author.Rules.{rules}
use Rattle.templates.proofs.HeadLaws.{ahead_room, size_fits, head_made}
use Rattle.templates.proofs.head_of.Goals as goal

pub slice_bounds-length_of-count : goal.slice_bounds-length_of-count
slice_bounds-length_of-count c = search (ahead_room, rules)

pub slice_bounds-length_of-start : goal.slice_bounds-length_of-start
slice_bounds-length_of-start c = search (ahead_room, rules)

pub overflow_add-size : goal.overflow_add-size
overflow_add-size c = search (size_fits, rules)

pub returns : goal.returns
returns c = search (head_made, rules)
