use native.Mathlib.Omega.{arith}
use Rattle.message.proofs.CodeLaws.{string_made}
use Rattle.message.proofs.string.Goals as goal

pub first_block-s-requires : goal.first_block-s-requires
first_block-s-requires c = c.requires.0

pub returns : goal.returns
returns c = string_made c.args.header.now c.requires.0 c.args.body.now c.requires.1 _ _ _ c.first_block-s.ensures c.copy_from_slice.ensures.after (omega arith)
