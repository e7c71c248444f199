-- `parts::code_in` meets its contract: each part where it stands. Assumes nothing.
use Rattle.parts.proofs.LayLaws.{code_read}
use Rattle.parts.proofs.code_in.Goals as goal

pub returns : goal.returns
returns c = code_read c.args.b.now c.word_at.ensures c.word_at-2.ensures c.bytes_at.ensures c.expand.ensures c.bytes_at-2.ensures c.fill_at.ensures c.word_at-3.ensures
