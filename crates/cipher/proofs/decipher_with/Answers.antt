use mathlib.Core.Path.{ap, ◌∙◌}
use Rattle.gost.specs.declared.Halves.{Halves}
use Rattle.gost.specs.Gost.{rounds, through, exchanged, halves, block}
use Rattle.gost.proofs.Rounds.{rounds_down}
use Rattle.cipher.proofs.decipher_with.Goals as goal

pub returns : goal.returns
unfolding through exchanged
returns c = let x = c.args in
    c.block_of.ensures
    ∙ ap (λ (s : Halves). block (exchanged s))
    (rounds_down x.k (halves x.b) c.reversed-r.ensures (c.eight.ensures ∙ ap (rounds x.k) c.halves_of.ensures) c.eight-2.ensures c.eight-3.ensures c.eight-s.ensures)
