use mathlib.Core.Path.{ap, ◌∙◌}
use Rattle.std.proofs.Common.{Option, rules, tests}
use Rattle.std.specs.Option.{ok_or}
use Rattle.std.proofs.lemmas.Iterator.{YieldsList-from_slice}
use Rattle.std.proofs.lemmas.Iterator.Search.{find_from_yields_List}
use Rattle.answers.specs.declared.Refusal.TheVariants.{NotListed}
use Rattle.shapes.specs.declared.command.Command.{Command}
use Rattle.shapes.specs.Command.{is_for, listed}
use Rattle.shapes.proofs.CommandLaws.{lists, found_first}
use Rattle.shapes.proofs.command.Command.listed.Goals as goal

pub returns : goal.returns
unfolding listed
returns c = let x = c.args in
    let f =
    find_from_yields_List (λ (k : Command). is_for k x.header.now x.tag x.length) _ _ c.find.result c.find.ensures.ran (YieldsList-from_slice listed c.iter.ensures.rest)
    (λ y b q k. search (rules, tests))
    in
    lists (c.ok_or.ensures.value ∙ ap (λ (r : Option Command). ok_or r NotListed) (c.copied.ensures ∙ f) ∙ found_first listed x.header.now x.tag x.length)
