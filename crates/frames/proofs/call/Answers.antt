use Rattle.frames.proofs.FrameLaws.{called_1, called_2, called_3, called_4, called_5, called_6, called_7}
use borrow.Author.Rules.{rules}
use Rattle.frames.proofs.call.Goals as goal

pub returns-in-1 : goal.returns-in-1
returns-in-1 c = λ fits. let e = c.open_kept.ensures fits.0 in search called_1

pub returns-in-2 : goal.returns-in-2
returns-in-2 c = λ fits. let e = c.issuer_answer.ensures fits.0 in search called_2

pub returns-in-3 : goal.returns-in-3
returns-in-3 c = λ fits. let e = c.script.ensures fits.1 fits.2 in search called_3

pub returns-in-4 : goal.returns-in-4
returns-in-4 c = search called_4

pub returns-in-5 : goal.returns-in-5
returns-in-5 c = search called_5

pub returns-in-6 : goal.returns-in-6
returns-in-6 c = λ fits. let e = c.counter_block.ensures fits.0 in search called_6

pub returns-in_default : goal.returns-in_default
returns-in_default c = λ fits. called_7 _ _ _ _ (search rules) (c.check_pin_kept.ensures fits.2)
