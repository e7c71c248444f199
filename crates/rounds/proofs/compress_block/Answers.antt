use Rattle.std.proofs.Common.{ℕ, List, sym, ap, ◌∙◌}
use Rattle.rounds.specs.Rounds.{g_over, g}
use Rattle.rounds.proofs.KeyLaws.{g_first_lem}
use Rattle.rounds.proofs.compress_block.Goals as goal

pub returns-then-is_first : goal.returns-then-is_first
returns-then-is_first c = c.compress_first.ensures ∙ g_first_lem _ _ _ (sym c.is_first.ensures ∙ c.if-is_first.true)

pub returns : goal.returns
unfolding g
returns c = let a = c.args in
    c.compress_over.ensures ∙ ap (λ (cs : List (List ℕ)). g_over cs a.n a.h a.m) c.iteration_constants-c.ensures
