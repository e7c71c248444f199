use Rattle.card.specs.Keys.{smc_key}
use Rattle.card.proofs.CallLaws.{misread, mistaken, recognised}
use Rattle.card.proofs.compare.Goals as goal

pub returns-in_default : goal.returns-in_default
unfolding smc_key
returns-in_default c = λ smc. let e = c.script_key-key.ensures smc in search misread

pub returns-then-not-is_kept : goal.returns-then-not-is_kept
unfolding smc_key
returns-then-not-is_kept c = λ smc. let e = c.script_key-key.ensures smc in search mistaken

pub returns : goal.returns
unfolding smc_key
returns c = λ smc. let e = c.script_key-key.ensures smc in search recognised
