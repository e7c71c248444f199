use Rattle.std.proofs.Common.{◌≡◌, ℕ, ◌+◌, ◌<◌, List, [], length, get_or, drop, refl, ap, ◌∙◌, ap₂, arith, rules}
use Rattle.lps.specs.Vectors.{X}
use Rattle.lps.proofs.Words.{length-LPS}
use Rattle.lps.proofs.Columns.{turned}
use Rattle.rounds.specs.Rounds.{E, g_over}
use Rattle.rounds.proofs.KeyLaws.{rounds_turn, rounds_end}
use Rattle.rounds.proofs.compress_over.Goals as goal

pub loop-x-init : goal.loop-x-init
loop-x-init c = let a = c.args in
    let n : length a.m ≡ 8 = search rules in
    let e : length a.h ≡ 8 = search rules in
    (omega arith, ap length (c.turn.ensures ∙ turned a.h (X a.h a.n) e) ∙ length-LPS (X a.h a.n), n, refl)

pub loop-x-preserved : goal.loop-x-preserved
loop-x-preserved c = let l = c.loop-x in
    let cs = c.args.c.now in
    let h : l.x-index < length cs = search rules in
    let v = get_or cs l.x-index [] in
    let k = c.turn-in-loop-x-2.ensures ∙ turned l.k (X l.k v) l.invariant.1 in
    let s = c.turn-in-loop-x.ensures ∙ turned l.s (X l.s l.k) l.invariant.2 in (
      omega arith,
      ap length k ∙ length-LPS (X l.k v),
      ap length s ∙ length-LPS (X l.s l.k),
      ap₂ (E (drop (l.x-index + 1) cs)) k s ∙ rounds_turn cs l.x-index l.k l.s h ∙ l.invariant.3,
    )

pub returns : goal.returns
unfolding g_over
returns c = let l = c.loop-x in
    let first = c.turn in
    let a = c.args in
    let cs = a.c.now in
    let e : length a.h ≡ 8 = search rules in
    c.xor-3.ensures
    ∙ ap (λ (x : List ℕ). X x a.m)
    (c.xor-2.ensures
    ∙ ap (λ (x : List ℕ). X x a.h)
    (c.xor.ensures
    ∙ rounds_end cs l.x-index l.k l.s (omega arith)
    ∙ l.invariant.3
    ∙ ap (λ (k : List ℕ). E cs k a.m) (first.ensures ∙ turned a.h (X a.h a.n) e)))
