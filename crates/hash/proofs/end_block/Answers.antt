use mathlib.Core.Path.{ap, ap₂, ◌∙◌}
use mathlib.Core.List.{List}
use Prim.Native.Nat.{ℕ}
use lib.ListN.{drop}
use Rattle.rounds.specs.Keys.{g_by}
use Rattle.hash.specs.declared.Core.{Core}
use Rattle.hash.specs.Hash.{after_block}
use Rattle.hash.specs.Ahead.{advanced_by, closed_over}
use Rattle.hash.proofs.AheadLaws.{keys_lent, block_not, block_ended}
use Rattle.hash.proofs.end_block.Goals as goal

pub returns-then-a-ne128 : goal.returns-then-a-ne128
returns-then-a-ne128 c = block_not _ _ _ _ c.if-a-ne128.true

pub returns : goal.returns
unfolding advanced_by
returns c = let a = c.args in
    let ws = a.a.now in
    let n = c.if-a-ne128.false in
    let d = c.core_in-core.result in
    let e = c.core_in-core.ensures in
    let h = c.compress_with.ensures ∙ keys_lent ws d.h a.m n ∙ ap (λ (x : Core). g_by (drop 24 ws) x.h a.m) e in
    c.close.ensures
    ∙ ap (closed_over a.cs.now) (c.after_block.ensures ∙ ap₂ (λ (x : Core) (y : List ℕ). after_block x y a.bits a.m) e h)
    ∙ block_ended a.cs.now ws a.bits a.m n
