use Rattle.card.proofs.CallLaws.{obey_full, obey_code, obey_taken}
use mathlib.Core.Path.{refl}
use Rattle.card.specs.Keys.{smi_key}
use mathlib.Core.Bool.{not}
use mathlib.Core.Path.{ap}
use Rattle.card.proofs.obey.Goals as goal

pub returns-then-c-eq65535 : goal.returns-then-c-eq65535
returns-then-c-eq65535 c = search obey_full

pub returns-then-not-code_fits : goal.returns-then-not-code_fits
unfolding smi_key
returns-then-not-code_fits c = λ smi smc. let e = c.script_key-key.ensures smi in search obey_code

pub returns : goal.returns
unfolding smi_key
returns c = λ smi smc. obey_taken c.args.c c.args.command _ _ _ c.if-c-eq65535.false _ (c.script_key-key.ensures smi) _ c.code_fits.ensures (ap not c.if-not-code_fits.false) _ c.requires _ refl (c.take.ensures smc)
