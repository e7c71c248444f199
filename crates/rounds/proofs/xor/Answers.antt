use Rattle.std.proofs.Common.{◌≡◌, ℕ, ◌<◌, List, length, get_or, set, replicate, refl, ap, ◌∙◌, arith, rules}
use lib.Bits.{bit_xor}
use lib.Seq.{paste, paste-zero}
use Rattle.octets.proofs.Parts.{made_turn, made_end}
use Rattle.lps.specs.Vectors.{X}
use Rattle.lps.proofs.Columns.{length_X}
use Rattle.rounds.proofs.LentLaws.{sum_turn}
use Rattle.rounds.proofs.xor.Goals as goal

pub loop-i-init : goal.loop-i-init
loop-i-init c = let a = c.args in (omega arith, paste-zero _ 0 (X a.a a.b))

pub loop-i-preserved : goal.loop-i-preserved
loop-i-preserved c = let l = c.loop-i in
    let a = c.args.a in
    let b = c.args.b in
    let h : l.i < 8 = search rules in
    let n : length (X a b) ≡ 8 = length_X a b in
    let v = bit_xor (get_or a l.i 0) (get_or b l.i 0) in (
      omega arith,
      ap (λ (s : List ℕ). set s l.i v) l.invariant.1 ∙ made_turn (replicate 8 0) (X a b) l.i v h (omega arith) (sum_turn a b l.i h),
    )

pub returns : goal.returns
returns c = let l = c.loop-i in
    let a = c.args in
    let e : l.i ≡ 8 = omega arith in
    l.invariant.1
    ∙ ap (paste (replicate 8 0) 0 (X a.a a.b)) e
    ∙ made_end (replicate 8 0) (X a.a a.b) 8 refl (length_X a.a a.b)
