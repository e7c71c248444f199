use Rattle.frames.proofs.FrameLaws.{script_short, script_parts}
use Rattle.frames.proofs.script.Goals as goal

pub returns-then-rest-lt4 : goal.returns-then-rest-lt4
returns-then-rest-lt4 c = λ smi smc. let e = c.script_kept.ensures smi smc in search script_short

pub returns : goal.returns
returns c = λ smi smc. let e = c.script_kept-2.ensures smi smc in search script_parts
