use Rattle.scripts.proofs.FromLaws.{taken}
use Rattle.scripts.proofs.object_at.Goals as goal

pub returns : goal.returns
returns c = search taken
