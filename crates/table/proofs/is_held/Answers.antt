use mathlib.Core.Path.{◌∙◌}
use Rattle.std.proofs.Common.{rules, tests}
use Rattle.std.proofs.lemmas.Iterator.{YieldsList-from_slice}
use Rattle.std.proofs.lemmas.Iterator.Search.{any_from_yields_List}
use Rattle.table.specs.Table.{names}
use Rattle.table.proofs.Turns.{held_any}
use Rattle.table.proofs.is_held.Goals as goal

pub returns : goal.returns
returns c =
    any_from_yields_List (names c.args.c) _ _ c.any.result c.any.ensures.ran (YieldsList-from_slice c.args.places c.iter.ensures.rest) (λ x b q k. search (rules, tests))
    ∙ held_any c.args.c c.args.places
