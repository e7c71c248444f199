use mathlib.Core.Path.{ap, ◌∙◌}
use mathlib.Core.List.{◌++◌}
use Prim.Native.Nat.{ℕ}
use native.Mathlib.Omega.{arith}
use Rattle.shapes.specs.Shape.{code_head}
use Rattle.octets.specs.Laid.{laid}
use Rattle.message.proofs.WrapLaws.{data_stored}
use Rattle.message.proofs.write_data.Goals as goal

pub returns : goal.returns
returns c =
    let b = c.args.part.now in
    let d = c.args.data.now in
    data_stored b c.place_of-place.result _ d _ c.copy_from_slice.ensures.after (omega arith) (omega arith)
    ∙ ap (λ (k : ℕ). laid b k (d ++ code_head)) c.place_of-place.ensures
