use Rattle.std.proofs.Common.{◌≡◌, ℕ, ◌+◌, ◌-◌, ◌*◌, ◌<◌, List, length, drop, refl, ap, ◌∙◌, arith, rules}
use Rattle.lps.specs.Vectors.{X}
use Rattle.lps.proofs.Words.{length-LPS}
use Rattle.lps.proofs.Columns.{turned}
use Rattle.rounds.specs.Keys.{through_keys, g_by}
use Rattle.rounds.proofs.LentLaws.{X-at}
use Rattle.rounds.proofs.KeyLaws.{through_turn, through_end, with_not, with_all}
use Rattle.rounds.proofs.compress_with.Goals as goal

pub returns-then-keys-ne104 : goal.returns-then-keys-ne104
returns-then-keys-ne104 c = with_not _ _ _ c.if-keys-ne104.true

pub loop-i-init : goal.loop-i-init
loop-i-init c = let n : length c.args.m ≡ 8 = search rules in (omega arith, c.if-keys-ne104.false, n, refl)

pub loop-i-preserved : goal.loop-i-preserved
loop-i-preserved c = let l = c.loop-i in
    let a = c.args in
    let ks = a.keys.now in
    let h : l.i < 12 = search rules in
    let n : length ks ≡ 104 = l.invariant.1 in
    let k = c.vector.result in
    let e : X k l.s ≡ X (drop (8 * l.i) ks) l.s = ap (λ (x : List ℕ). X x l.s) c.vector.ensures ∙ X-at ks (8 * l.i) l.s (omega arith) in
    let r = c.turn.ensures ∙ turned l.s (X l.s k) l.invariant.2 in (
      omega arith,
      n,
      ap length r ∙ length-LPS (X l.s k),
      ap (through_keys (12 - (l.i + 1)) (drop (8 * (l.i + 1)) ks)) r ∙ through_turn ks a.m l.i k l.s h e l.invariant.3,
    )

pub returns : goal.returns
unfolding g_by
returns c = let l = c.loop-i in
    let a = c.args in
    let ks = a.keys.now in
    let n : length ks ≡ 104 = l.invariant.1 in
    c.xor-3.ensures
    ∙ ap (λ (x : List ℕ). X x a.m)
    (c.xor-2.ensures
    ∙ ap (λ (x : List ℕ). X x a.h)
    (c.xor.ensures
    ∙ ap (λ (x : List ℕ). X x l.s) c.vector-2.ensures
    ∙ X-at ks 96 l.s (omega arith)
    ∙ ap (X (drop 96 ks)) (through_end ks a.m l.i l.s (omega arith) l.invariant.0 l.invariant.3)))
    ∙ with_all ks a.h a.m n
