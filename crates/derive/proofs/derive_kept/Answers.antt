use mathlib.Core.Path.{◌≡◌, ap, ◌∙◌}
use mathlib.Core.List.{List}
use Prim.Native.Nat.{ℕ}
use lib.ListN.{length}
use Rattle.derive.specs.Answers.{derivation_over}
use Rattle.derive.proofs.Laws.{derivation_over_lem}
use borrow.Author.Rules.{rules}
use Rattle.derive.proofs.derive_kept.Goals as goal

pub returns : goal.returns
returns c = let a = c.args in
    let ws = a.kept.now in
    let l : length a.label ≡ 4 = search (rules, c.well_formed) in
    let s : length a.seed ≡ 8 = search (rules, c.well_formed) in
    c.derive_kept_over.ensures
    ∙ ap (λ (cs : List (List ℕ)). derivation_over cs ws a.label a.seed) c.iteration_constants-cs.ensures
    ∙ derivation_over_lem ws a.label a.seed l s
