use Rattle.desk.proofs.ScriptLaws.{header_fits, script_written}
use borrow.Author.Rules.{rules}
use Rattle.desk.proofs.script.lay_script.Goals as goal

pub store_header-requires : goal.store_header-requires
store_header-requires c = let a = c.args in header_fits a.c _ a.data.now a.buffer.now a.place c.requires.1

pub returns : goal.returns
returns c = let a = c.args in
    script_written a.c _ a.data.now a.buffer.now a.place c.requires.1 (search rules) c.requires.0 _ c.store_header.ensures _ c.header.ensures _ c.tag.ensures _ _
    c.wrap.ensures
