use Rattle.desk.proofs.DeskLaws.{id_made}
use Rattle.desk.proofs.id_of.Goals as goal

pub returns : goal.returns
returns c = id_made _ _ _ c.copy_from_slice.ensures.after
