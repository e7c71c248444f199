use mathlib.Core.Path.{sym, ap, ◌∙◌}
use Rattle.gost.specs.Gost.{rounds}
use Rattle.gost.proofs.Rounds.{rounds-append}
use Rattle.cipher.specs.Code.{added}
use Rattle.cipher.proofs.absorb.Goals as goal

pub returns : goal.returns
unfolding added
returns c = let x = c.args in
    c.eight-2.ensures ∙ ap (rounds x.k) c.eight.ensures ∙ sym (rounds-append x.k x.k (added x.s x.m))
