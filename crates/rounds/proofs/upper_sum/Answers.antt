use Rattle.std.proofs.Common.{ℕ, List, ap, ◌∙◌}
use Rattle.lps.specs.Vectors.{X}
use Rattle.rounds.proofs.LentLaws.{upper_words}
use Rattle.rounds.proofs.upper_sum.Goals as goal

pub returns : goal.returns
returns c = let a = c.args in
    upper_words _ _ _ (c.xor-y.ensures ∙ ap (λ (x : List ℕ). X x a.m) (c.xor.ensures ∙ ap (λ (x : List ℕ). X x a.h) c.xor-x.ensures))
