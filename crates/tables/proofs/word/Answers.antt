-- The static has the words, and after the last is 0. Assumes nothing.
use Rattle.tables.proofs.Words.{words, word_right, word_after}
use Rattle.tables.proofs.word.Goals as goal

pub returns-then-k-lt2048 : goal.returns-then-k-lt2048
unfolding words
returns-then-k-lt2048 c = word_right c.args.k

pub returns-else-k-lt2048 : goal.returns-else-k-lt2048
returns-else-k-lt2048 c = word_after c.args.k c.if-k-lt2048.false
