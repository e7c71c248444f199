use mathlib.Core.Path.{ap, ◌∙◌}
use native.Mathlib.Omega.{arith}
use Rattle.std.specs.Prelude.{Ok}
use Rattle.octets.specs.Numbers.{le_octets}
use Rattle.gost.specs.declared.Halves.{Halves}
use Rattle.cipher.specs.Code.{code_of, state, start}
use Rattle.cipher.proofs.AnswerLaws.{no_octets, no_whole, string_fits_lem}
use Rattle.cipher.proofs.code_with.Goals.{then-string-eq0-via-then-string-eq0, then-string-eq0-via-else-string-eq0+then-string-ne0}
use Rattle.cipher.proofs.code_with.Goals as goal

pub returns-then-string-eq0 : goal.returns-then-string-eq0
returns-then-string-eq0 c =
    elim c.then-string-eq0.branch [
      | then-string-eq0-via-then-string-eq0 w ↦ no_octets _ _ w.if-string-eq0.true
      | then-string-eq0-via-else-string-eq0+then-string-ne0 w ↦ no_whole _ _ (λ e. w.if-string-ne0.true (omega arith))
    ]

pub returns : goal.returns
unfolding code_of state start
returns c =
    let x = c.args in
    ap Ok (c.word_octets.ensures ∙ ap (λ (h : Halves). le_octets 4 h.n1) c.absorb_all-s.ensures)
    ∙ string_fits_lem x.k x.string.now c.if-string-eq0.false c.if-string-ne0.false
