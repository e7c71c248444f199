use Rattle.card.proofs.CallLaws.{pin_no, pin_yes}
use Rattle.card.specs.Keys.{smc_key}
use Rattle.card.proofs.take_pin.Goals as goal

pub returns-in_default : goal.returns-in_default
unfolding smc_key
returns-in_default c = λ fits. let e = c.script_key-key.ensures fits in search pin_no

pub returns : goal.returns
unfolding smc_key
returns c = λ fits. let e = c.script_key-key.ensures fits in search pin_yes
