use native.Mathlib.Nat.{add-sub_cancel_left}
use lib.ListN.{length}
use Rattle.pin.proofs.BlockLaws.{fields_laid}
use Rattle.pin.proofs.fields_of.Goals as goal

pub returns : goal.returns
returns c = fields_laid c.args.pin.now _ _ c.copy_from_slice.ensures.after (add-sub_cancel_left 2 (length c.args.pin.now))
