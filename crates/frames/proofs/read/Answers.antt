use Rattle.frames.proofs.FrameLaws.{read_above, read_done, hexadecimal_some}
use Rattle.frames.proofs.read.Goals as goal

pub returns-then-tag-gt-LAST_FRAME : goal.returns-then-tag-gt-LAST_FRAME
returns-then-tag-gt-LAST_FRAME c = search read_above

pub slice_bounds-frame-count : goal.slice_bounds-frame-count
slice_bounds-frame-count c = hexadecimal_some _ c.requires.1

pub slice_bounds-frame-start : goal.slice_bounds-frame-start
slice_bounds-frame-start c = hexadecimal_some _ c.requires.1

pub returns : goal.returns
returns c = λ fits. let e = c.frame.ensures fits in search read_done
