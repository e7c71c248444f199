-- `parts::hash_in` meets its contract: each part where it stands. Assumes nothing.
use Rattle.parts.proofs.LayLaws.{hash_read}
use Rattle.parts.proofs.hash_in.Goals as goal

pub returns : goal.returns
returns c = hash_read c.args.b.now c.bytes_at.ensures c.words_of.ensures c.bytes_at-2.ensures c.words_of-2.ensures c.bytes_at-3.ensures c.words_of-3.ensures c.bytes_at-4.ensures c.fill_at.ensures c.word_at.ensures
