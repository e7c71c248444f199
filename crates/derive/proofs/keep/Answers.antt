use mathlib.Core.Path.{ap, ◌∙◌}
use Rattle.hash.specs.Ahead.{ahead_of}
use Rattle.derive.specs.declared.Started.{Started}
use Rattle.derive.proofs.Laws.{kept_laid}
use Rattle.derive.proofs.keep.Goals as goal

pub returns : goal.returns
returns c = let s = c.start-s.ensures in
    let i = c.keep.ensures ∙ ap (λ (x : Started). ahead_of x.inner.core) s in
    let o = c.keep-2.ensures ∙ ap (λ (x : Started). ahead_of x.outer.core) s in
    kept_laid _ _ _ _ _ i o c.lay.ensures c.lay-2.ensures
