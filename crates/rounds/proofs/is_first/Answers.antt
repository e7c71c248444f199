use Rattle.std.proofs.Common.{Bool, ◌&&◌, replicate, sym, ap, ◌∙◌}
use Rattle.octets.specs.Same.{same}
use Rattle.rounds.specs.Keys.{is_first}
use Rattle.octets.proofs.PointwiseLaws.{pointwise_same}
use Rattle.rounds.proofs.is_first.Goals as goal

pub returns-then-eq : goal.returns-then-eq
unfolding is_first
returns-then-eq c = let h = c.args.h in
    let iv = replicate 8 0x0101010101010101 in
    let n = c.eq.ensures ∙ pointwise_same c.args.n (replicate 8 0) in
    c.eq-then-eq.ensures ∙ pointwise_same h iv ∙ ap (λ (t : Bool). t && same h iv) (sym (sym n ∙ c.if-eq.true))

pub returns-else-eq : goal.returns-else-eq
unfolding is_first
returns-else-eq c = let n = c.eq.ensures ∙ pointwise_same c.args.n (replicate 8 0) in
    c.if-eq.false ∙ ap (λ (t : Bool). t && same c.args.h (replicate 8 0x0101010101010101)) (sym (sym n ∙ c.if-eq.false))
