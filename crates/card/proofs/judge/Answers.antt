use Rattle.shapes.proofs.AnswerLaws.{told_data}
use mathlib.Core.Path.{refl}
use native.Mathlib.Omega.{arith}
use Rattle.card.proofs.CallLaws.{judge_header, judge_shape, judge_unlisted, judge_listed, judge_end, judge_data}
use Rattle.card.proofs.judge.Goals as goal

pub returns-then-header-ne4 : goal.returns-then-header-ne4
returns-then-header-ne4 c = search judge_header

pub returns-in_default : goal.returns-in_default
returns-in_default c = search judge_shape

pub overflow_add-end : goal.overflow_add-end
overflow_add-end c = let w = told_data _ _ _ c.in-Ok.ensures refl in
    record { fits = omega arith }

pub slice_bounds-obey-end : goal.slice_bounds-obey-end
slice_bounds-obey-end c = search judge_end

pub obey-requires : goal.obey-requires
obey-requires c = search judge_data

pub returns-in-Ok-listed : goal.returns-in-Ok-listed
returns-in-Ok-listed c = λ smi smc. let e = c.obey.ensures smi smc in search judge_listed

pub returns-in-Err : goal.returns-in-Err
returns-in-Err c = search judge_unlisted
