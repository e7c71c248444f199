use mathlib.Core.Path.{ap, ◌∙◌}
use mathlib.Core.List.{List}
use Prim.Native.Nat.{ℕ}
use Rattle.hash.specs.Hash.{after_block, advanced}
use Rattle.hash.proofs.advance.Goals as goal

pub returns : goal.returns
unfolding advanced
returns c = let a = c.args in
    c.after_block.ensures ∙ ap (λ (h : List ℕ). after_block a.c h a.bits a.m) c.compress_block.ensures
