use Rattle.std.proofs.Common.{ℕ, ◌+◌, List, drop, sym, ap, ◌∙◌, arith, drop_of_length-le}
use lib.Bits.{bit_xor}
use Rattle.gost.specs.Gost.{rounds, round}
use Rattle.gost.proofs.Rounds.{rounds_turn}
use Rattle.gost.proofs.eight.Goals as goal

pub loop-x-preserved : goal.loop-x-preserved
unfolding round
loop-x-preserved c =
    let k = c.args.k in
    let l = c.loop-x in
    ap (λ (x : ℕ). rounds (drop (l.x-index + 1) k) (record { n1 = bit_xor l.n2 x; n2 = l.n1 })) c.mix.ensures
    ∙ sym (rounds_turn k l.x-index (record { n1 = l.n1; n2 = l.n2 }) (omega arith))
    ∙ l.invariant

pub returns : goal.returns
unfolding rounds
returns c =
    let k = c.args.k in
    let l = c.loop-x in
    sym (ap (λ (x : List ℕ). rounds x (record { n1 = l.n1; n2 = l.n2 })) (drop_of_length-le k {i = l.x-index} (omega arith))) ∙ l.invariant
