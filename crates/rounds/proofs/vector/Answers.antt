use Rattle.std.proofs.Common.{◌≡◌, ℕ, ◌+◌, ◌<◌, List, get_or, set, replicate, refl, ap, ◌∙◌, arith, rules}
use lib.Seq.{paste, paste-zero}
use Rattle.octets.proofs.Parts.{made_turn, made_end}
use Rattle.rounds.specs.Lent.{vector_at}
use Rattle.rounds.proofs.LentLaws.{vector_none, vector_length, vector_word}
use Rattle.rounds.proofs.vector.Goals as goal
use Rattle.rounds.proofs.vector.Goals.{then-b-lt8-via-then-b-lt8, then-b-lt8-via-else-b-lt8+then-b-p}

pub returns-then-b-lt8 : goal.returns-then-b-lt8
returns-then-b-lt8 c =
    elim c.then-b-lt8.branch [
      | then-b-lt8-via-then-b-lt8 w ↦ vector_none _ _ (omega arith)
      | then-b-lt8-via-else-b-lt8+then-b-p w ↦ vector_none _ _ (omega arith)
    ]

pub loop-i-init : goal.loop-i-init
loop-i-init c = let a = c.args in (omega arith, paste-zero _ 0 (vector_at a.b.now a.p))

pub loop-i-preserved : goal.loop-i-preserved
loop-i-preserved c = let l = c.loop-i in
    let a = c.args in
    let b = a.b.now in
    let h : l.i < 8 = search rules in
    let n = vector_length b a.p l.invariant.0 in
    let v = get_or b (a.p + l.i) 0 in (
      l.invariant.0,
      ap (λ (s : List ℕ). set s l.i v) l.invariant.1 ∙ made_turn (replicate 8 0) (vector_at b a.p) l.i v h (omega arith) (vector_word b a.p l.i l.invariant.0 h),
    )

pub returns : goal.returns
returns c = let l = c.loop-i in
    let a = c.args in
    let v = vector_at a.b.now a.p in
    let e : l.i ≡ 8 = omega arith in
    l.invariant.1
    ∙ ap (paste (replicate 8 0) 0 v) e
    ∙ made_end (replicate 8 0) v 8 refl (vector_length _ _ l.invariant.0)
