use mathlib.Core.Path.{sym, ap, ◌∙◌}
use Rattle.std.proofs.Common.{rules, tests, arith}
use Rattle.std.specs.Option.{option_map}
use Rattle.std.proofs.lemmas.Iterator.{YieldsList-from_slice}
use Rattle.std.proofs.lemmas.Iterator.Search.{find_from_yields_List}
use Rattle.table.specs.Table.{names}
use Rattle.table.proofs.Turns.{reading_said, reading_none}
use Rattle.table.proofs.last_of.Goals as goal

pub returns-in-Some : goal.returns-in-Some
returns-in-Some c =
    reading_said _ _ _
    (sym (find_from_yields_List (names c.args.c) _ _ c.find.result c.find.ensures.ran (YieldsList-from_slice c.args.places c.iter.ensures.rest) (λ x b q k. search (rules, tests)))
    ∙ ap (option_map _) c.in-Some.is)
    (grind arith)

pub returns-in-None : goal.returns-in-None
returns-in-None c = reading_none _ _
    (sym (find_from_yields_List (names c.args.c) _ _ c.find.result c.find.ensures.ran (YieldsList-from_slice c.args.places c.iter.ensures.rest) (λ x b q k. search (rules, tests)))
    ∙ ap (option_map _) c.in-None.is)
