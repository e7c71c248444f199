use borrow.Author.Rules.{rules}
use Rattle.std.proofs.lemmas.Result.{err_from_is_err_and}
use Rattle.desk.proofs.DeskLaws.{card_small, card_good}
use Rattle.desk.proofs.ScriptLaws.{wrap_unordered, wrap_length, wrap_card, wrap_unknown, wrap_held}
use mathlib.Core.Bool.{not}
use mathlib.Core.Path.{ap}
use Rattle.desk.proofs.wrap.Goals as goal

pub returns-in_err-command : goal.returns-in_err-command
returns-in_err-command c =
    let p = err_from_is_err_and c.from_residual.result c.from_residual.ensures.1 in
    rw (p.1, p.2) (wrap_unordered _ _ _ _ _ _ _ _ _ c.ordered.ensures _ c.in_err-command.was)

pub returns-then-cryptogram-ne8 : goal.returns-then-cryptogram-ne8
returns-then-cryptogram-ne8 c = search (wrap_length, rules)

pub returns-then-not-card_fits : goal.returns-then-not-card_fits
returns-then-not-card_fits c = search (wrap_card, rules)

pub id_of-requires : goal.id_of-requires
id_of-requires c = card_small _ _ _ c.card_fits.ensures (ap not c.if-not-card_fits.false)

pub returns-then-not-is_held : goal.returns-then-not-is_held
returns-then-not-is_held c = search (wrap_unknown, rules)

pub script_of-smi-requires : goal.script_of-smi-requires
script_of-smi-requires c = search (card_good, rules)

pub script_of-smc-requires : goal.script_of-smc-requires
script_of-smc-requires c = search (card_good, rules)

pub returns : goal.returns
returns c =
    wrap_held _ _ _ _ _ _ _ _ _ c.ordered.ensures _ c.in_ok-command.was c.if-cryptogram-ne8.false _ c.card_fits.ensures (ap not c.if-not-card_fits.false) _ c.id_of.ensures _
    c.is_held.ensures (ap not c.if-not-is_held.false) _ _ c.script_of-smi.ensures c.script_of-smc.ensures _ _ c.wrap_command.ensures
