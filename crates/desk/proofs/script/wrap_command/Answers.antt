use Rattle.desk.proofs.ScriptLaws.{of_command, mark_written}
use Rattle.desk.proofs.script.wrap_command.Goals as goal

pub returns-in-SetPin : goal.returns-in-SetPin
returns-in-SetPin c = of_command _ _ c.in-SetPin.is _ _ _ _ _ _ _ c.write_pin.ensures

pub returns-in-SetMark : goal.returns-in-SetMark
returns-in-SetMark c = mark_written _ c.in-SetMark.is _ _ _ _ _ _ _ c.write_script.ensures
