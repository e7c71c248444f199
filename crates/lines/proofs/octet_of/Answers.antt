use Prim.Native.Nat.{ℕ, ◌+◌, ◌*◌, ◌%◌}
use mathlib.Core.Path.{ap₂}
use Rattle.lines.specs.Lines.{octet_of}
use Rattle.lines.proofs.octet_of.Goals as goal

pub returns : goal.returns
unfolding octet_of
returns c = ap₂ (λ (a b : ℕ). a % 16 * 16 + b % 16) c.hex_value.ensures c.hex_value-2.ensures
