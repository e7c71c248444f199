use mathlib.Core.Path.{◌≡◌, ap, ap₂, ◌∙◌}
use Prim.Native.Nat.{ℕ, ◌/◌, ◌%◌}
use mathlib.Core.List.{[], ◌∷◌}
use native.Mathlib.Omega.{arith}
use Rattle.octets.specs.Digits.{hex_digit, hex_octet}
use Rattle.octets.proofs.hex.Goals as goal

pub returns : goal.returns
unfolding hex_octet
returns c = let b = c.args.b in
    let e : b / 16 % 16 ≡ b / 16 = omega arith in
    ap₂ (λ (x y : ℕ). x ∷ y ∷ []) (c.hex_digit.ensures ∙ ap hex_digit e) c.hex_digit-2.ensures
