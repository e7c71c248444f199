use Rattle.desk.proofs.DeskLaws.{is_given, script_given, script_made}
use Rattle.desk.proofs.script_of.Goals as goal

pub unwrap-requires : goal.unwrap-requires
unwrap-requires c = is_given _ _ (script_given c.args.packed c.args.issuer c.args.pan.now c.args.sequence _ _ _ c.requires.1 c.master_key-m.ensures c.script_key.ensures)

pub returns : goal.returns
returns c = script_made _ _ _ _ _ _ _ c.requires.1 c.master_key-m.ensures c.script_key.ensures _ c.unwrap.ensures
