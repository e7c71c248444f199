use mathlib.Core.Path.{ap, ◌∙◌}
use Prim.Native.Nat.{◌-◌}
use lib.ListN.{length, take, drop}
use Rattle.hash.specs.Ahead.{ended_block}
use Rattle.derive.proofs.Laws.{over_no_words, over_lent}
use Rattle.derive.proofs.derive_kept_over.Goals as goal

pub returns-then-kept-ne-KEPT_WORDS : goal.returns-then-kept-ne-KEPT_WORDS
returns-then-kept-ne-KEPT_WORDS c = over_no_words _ _ _ _ c.if-kept-ne-KEPT_WORDS.true

pub returns : goal.returns
returns c = let a = c.args in
    let cs = a.cs.now in
    let ws = a.kept.now in
    over_lent cs ws a.label a.seed c.if-kept-ne-KEPT_WORDS.false _ _ _ c.string-m.ensures
    (c.end_block-x.ensures ∙ ap (ended_block cs (take 128 ws) 128) c.last_block.ensures)
    (c.end_block.ensures ∙ ap (ended_block cs (take (length ws - 128) (drop 128 ws)) 256) c.last_block-2.ensures)
