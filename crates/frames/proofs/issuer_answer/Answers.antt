use Rattle.frames.proofs.FrameLaws.{answer_short, answer_parts}
use Rattle.frames.proofs.issuer_answer.Goals as goal

pub returns-then-rest-lt8 : goal.returns-then-rest-lt8
returns-then-rest-lt8 c = λ fits. let e = c.issuer_answer_kept.ensures fits in search answer_short

pub returns : goal.returns
returns c = λ fits. let e = c.issuer_answer_kept-2.ensures fits in search answer_parts
