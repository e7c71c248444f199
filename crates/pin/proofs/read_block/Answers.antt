use mathlib.Core.Bool.{not}
use mathlib.Core.Path.{ap}
use Rattle.pin.proofs.AnswerLaws.{block_formed, read_no_format, read_yes}
use Rattle.pin.proofs.read_block.Goals as goal

pub returns-then-not-well_formed : goal.returns-then-not-well_formed
returns-then-not-well_formed c = search read_no_format

pub twelve-requires : goal.twelve-requires
twelve-requires c = (block_formed _ _ c.split-h.ensures _ c.well_formed-2.ensures (ap not c.if-not-well_formed.false)).pin.most

pub returns : goal.returns
returns c = search read_yes
