use Rattle.exports.proofs.TemplateLaws.{write_length, write_given, write_refused}
use Rattle.exports.proofs.box_write_templates.Goals as goal

pub returns-then-size-ne4 : goal.returns-then-size-ne4
returns-then-size-ne4 c = write_length _ _ _ _ _ c.if-size-ne4.true c.number.ensures

pub returns-in-Ok : goal.returns-in-Ok
returns-in-Ok c = write_given _ _ _ _ _ _ _ c.if-size-ne4.false c.in-Ok.ensures c.lay_place.result c.lay_place.ensures c.give.ensures

pub returns-in-Err : goal.returns-in-Err
returns-in-Err c = write_refused _ _ _ _ _ _ _ c.if-size-ne4.false c.in-Err.ensures c.number-in-Err.ensures
