use mathlib.Core.Path.{◌≡◌, sym, ap, ap₂, ◌∙◌}
use mathlib.Core.List.{List}
use Prim.Native.Nat.{ℕ, ◌*◌, ◌%◌}
use native.Mathlib.Omega.{arith}
use lib.ListN.{length, take}
use lib.Seq.{length-take-le}
use Rattle.lps.specs.Vectors.{words}
use Rattle.rounds.specs.Keys.{g_block}
use Rattle.rounds.proofs.KeyLaws.{g_block_lem}
use Rattle.hash.specs.Hash.{after_block, advanced, padded, finished}
use Rattle.hash.specs.States.{held, ended}
use Rattle.hash.specs.Ahead.{closed_over}
use Rattle.hash.proofs.Laws.{closed_over_lem}
use Rattle.hash.proofs.AheadLaws.{last_short}
use borrow.Author.Rules.{rules}
use Rattle.hash.proofs.end.Goals as goal

pub returns : goal.returns
unfolding ended held finished advanced
returns c = let s = c.args.s in
    let last = c.last_block-m in
    let at = s.fill % 64 in
    let t = take at s.buffer in
    let b : length s.buffer ≡ 64 = search (rules, c.well_formed) in
    let n : length t ≡ at = length-take-le at s.buffer (omega arith) in
    let bits : at * 8 ≡ 8 * length t = omega arith in
    let m : last.result ≡ words (padded t) = last.ensures ∙ sym (last_short t (omega arith)) in
    let made = c.iteration_constants-cs.ensures in
    let h =
    c.compress_block_over.ensures
    ∙ ap (λ (cs : List (List ℕ)). g_block cs s.core.n s.core.h last.result) made
    ∙ g_block_lem s.core.n s.core.h last.result in
    let core : c.after_block-c.result ≡ advanced s.core (8 * length t) (words (padded t)) =
    c.after_block-c.ensures
    ∙ ap (λ (x : List ℕ). after_block s.core x (at * 8) last.result) h
    ∙ ap₂ (advanced s.core) bits m in
    c.close.ensures ∙ ap₂ closed_over made core ∙ closed_over_lem (advanced s.core (8 * length t) (words (padded t)))
