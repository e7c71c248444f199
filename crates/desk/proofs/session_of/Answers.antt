use Rattle.desk.proofs.DeskLaws.{is_given, session_given, session_made}
use Rattle.desk.proofs.session_of.Goals as goal

pub unwrap-requires : goal.unwrap-requires
unwrap-requires c = is_given _ _ (session_given c.args.d c.args.pan.now c.args.sequence c.args.counter _ _ c.master_key-m.ensures c.session_key.ensures)

pub returns : goal.returns
returns c = session_made _ _ _ _ _ _ c.master_key-m.ensures c.session_key.ensures _ c.unwrap.ensures
