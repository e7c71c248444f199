-- `parts::lay_halves` meets its contract. Assumes nothing.
use mathlib.Core.Path.{ap, ◌∙◌}
use mathlib.Core.List.{List}
use Prim.Native.Nat.{ℕ}
use lib.Seq.{paste}
use Rattle.parts.proofs.LayLaws.{halves_list}
use Rattle.parts.proofs.lay_halves.Goals as goal

pub returns : goal.returns
returns c = let a = c.args in
    c.lay.ensures
    ∙ ap (λ (s : List ℕ). paste a.b.now a.p s 8)
    (halves_list a.h c.word_octets-x.result c.word_octets-y.result c.word_octets-x.ensures c.word_octets-y.ensures)
