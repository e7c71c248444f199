use Rattle.std.proofs.Common.{ℕ, List, sym, refl, ap, ◌∙◌}
use Rattle.rounds.specs.Keys.{g_by, g_first}
use Rattle.rounds.proofs.First.{first_keys, first as words, first_right}
use Rattle.rounds.proofs.KeyLaws.{with_all}
use Rattle.rounds.proofs.compress_first.Goals as goal

pub returns : goal.returns
unfolding g_first first_keys words
returns c = let a = c.args in
    c.compress_with.ensures ∙ sym (with_all _ a.h a.m refl) ∙ ap (λ (ks : List ℕ). g_by ks a.h a.m) (sym first_right)
