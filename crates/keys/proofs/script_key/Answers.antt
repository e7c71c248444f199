use Rattle.keys.specs.Answers.{script_key}
use Rattle.keys.proofs.script_key.Goals as goal

pub returns : goal.returns
unfolding script_key
returns c = c.derive.ensures
