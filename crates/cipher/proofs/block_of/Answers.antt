use mathlib.Core.Path.{ap₂, ◌∙◌}
use mathlib.Core.List.{List, ◌++◌}
use Prim.Native.Nat.{ℕ}
use borrow.Rule.Slice.PartMut.{put_mid}
use Rattle.octets.specs.Numbers.{le_octets}
use Rattle.octets.proofs.Parts.{zeros}
use Rattle.gost.specs.Gost.{block}
use Rattle.cipher.proofs.block_of.Goals as goal

pub returns : goal.returns
unfolding block le_octets
returns c =
    ap₂ (λ (a b : List ℕ). put_mid 4 4 (a ++ zeros 4) b)
    (c.copy_from_slice.ensures.after ∙ c.word_octets.ensures) (c.copy_from_slice-2.ensures.after ∙ c.word_octets-2.ensures)
