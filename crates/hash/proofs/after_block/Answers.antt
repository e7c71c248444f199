use mathlib.Core.Path.{ap, ◌∙◌}
use mathlib.Core.List.{List}
use Prim.Native.Nat.{ℕ}
use Rattle.rounds.specs.Sums.{◌⊞◌}
use Rattle.rounds.proofs.SumLaws.{vec_word}
use Rattle.hash.specs.Hash.{after_block}
use borrow.Author.Rules.{rules}
use Rattle.hash.proofs.after_block.Goals as goal

pub returns : goal.returns
unfolding after_block
returns c = let a = c.args in
    let n = c.add.ensures ∙ ap (λ (v : List ℕ). a.c.n ⊞ v) (vec_word a.bits (search rules)) in
    λ k. record { h = a.h; n = n k; sigma = c.add-2.ensures k }
