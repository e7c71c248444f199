use Rattle.message.proofs.CodeLaws.{block_made}
use Rattle.message.proofs.first_block.Goals as goal

pub returns : goal.returns
returns c = block_made c.args.header.now c.requires _ c.copy_from_slice.ensures.after
