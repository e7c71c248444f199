use Rattle.std.proofs.Common.{◌≡◌, ℕ, ◌<◌, List, length, set, replicate, refl, ap, ◌∙◌, arith, rules}
use lib.Seq.{paste, paste-zero}
use Rattle.octets.proofs.Parts.{made_turn, made_end}
use Rattle.rounds.specs.Sums.{◌⊞◌}
use Rattle.rounds.proofs.SumLaws.{length_sum, sum_start, sum_word, sum_turn}
use Rattle.rounds.proofs.add.Goals as goal

pub loop-i-init : goal.loop-i-init
loop-i-init c = let a = c.args in (omega arith, omega arith, paste-zero _ 0 (a.a ⊞ a.b), sum_start a.a a.b)

pub loop-i-preserved : goal.loop-i-preserved
loop-i-preserved c = let l = c.loop-i in
    let a = c.args.a in
    let b = c.args.b in
    let w = c.add_word-s in
    let ha : length a ≡ 8 = search rules in
    let hb : length b ≡ 8 = search rules in
    let hs : length (a ⊞ b) ≡ 8 = length_sum a b in
    let h : l.i < 8 = search rules in
    let v = w.result.value in
    let e = w.result.carry in (
      omega arith,
      w.ensures.1,
      ap (λ (s : List ℕ). set s l.i v) l.invariant.2
          ∙ made_turn (replicate 8 0) (a ⊞ b) l.i v h (omega arith)
          (sum_word a b (a ⊞ b) l.i l.carry v e ha hb hs h l.invariant.3 w.ensures.2 w.ensures.0),
      sum_turn a b (a ⊞ b) l.i l.carry v e ha hb hs h l.invariant.3 w.ensures.2 w.ensures.0,
    )

pub returns : goal.returns
returns c = let l = c.loop-i in
    let a = c.args in
    let e : l.i ≡ 8 = omega arith in
    l.invariant.2
    ∙ ap (paste (replicate 8 0) 0 (a.a ⊞ a.b)) e
    ∙ made_end (replicate 8 0) (a.a ⊞ a.b) 8 refl (length_sum a.a a.b)
