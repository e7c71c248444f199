-- `parts::mac_in` meets its contract: the inner hash and the outer. Assumes nothing.
use Rattle.parts.proofs.LayLaws.{mac_read}
use Rattle.parts.proofs.mac_in.Goals as goal

pub returns : goal.returns
returns c = mac_read c.args.b.now c.hash_in.ensures c.hash_in-2.ensures
