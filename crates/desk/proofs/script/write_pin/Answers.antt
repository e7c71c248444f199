use borrow.Author.Rules.{rules}
use Rattle.std.proofs.lemmas.Result.{err_from_is_err_and}
use Rattle.desk.proofs.ScriptLaws.{pin_refused, pin_eight, pin_written}
use Rattle.desk.proofs.script.write_pin.Goals as goal

pub returns-in_err-block : goal.returns-in_err-block
returns-in_err-block c =
    let p = err_from_is_err_and c.from_residual.result c.from_residual.ensures.1 in
    rw (p.1, p.2) (pin_refused _ _ _ _ _ (search rules) _ c.encipher_pin.ensures _ c.in_err-block.was)

pub write_script-requires : goal.write_script-requires
write_script-requires c = let a = c.args in pin_eight a.smi a.smc a.pin.now a.buffer.now a.place (search rules) _ c.encipher_pin.ensures _ c.in_ok-block.was

pub returns : goal.returns
returns c = pin_written _ c.args.smc _ _ _ (search rules) _ c.encipher_pin.ensures _ c.in_ok-block.was _ _ c.write_script.ensures
