-- `parts::lay_end` meets its contract. Assumes nothing.
use mathlib.Core.Path.{ap, ◌∙◌}
use mathlib.Core.List.{List}
use Prim.Native.Nat.{ℕ}
use lib.Seq.{paste}
use Rattle.parts.proofs.LayLaws.{end_list}
use Rattle.parts.proofs.lay_end.Goals as goal

pub returns : goal.returns
returns c = let a = c.args in
    c.lay.ensures ∙ ap (λ (s : List ℕ). paste a.b.now a.p s 5) (end_list a.fill a.total c.word_octets-t.result c.word_octets-t.ensures)
