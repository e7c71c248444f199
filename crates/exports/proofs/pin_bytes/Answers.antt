use mathlib.Core.Path.{ap, ◌∙◌}
use mathlib.Core.List.{List, ◌∷◌, append-nil}
use Prim.Native.Nat.{ℕ}
use Rattle.exports.proofs.pin_bytes.Goals as goal

pub returns : goal.returns
returns c = ap (λ (s : List ℕ). c.args.pin.count ∷ s) (append-nil _ ∙ c.copy_from_slice.ensures.after)
