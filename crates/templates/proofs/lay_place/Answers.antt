use mathlib.Core.Path.{◌≡◌, ◌∙◌}
use Prim.Native.Nat.{◌/◌, ◌%◌}
use native.Mathlib.Omega.{arith}
use Rattle.octets.specs.Numbers.{be_octets, le_octets}
use Rattle.templates.proofs.lay_place.Goals as goal

pub returns : goal.returns
unfolding be_octets le_octets
returns c =
    let p = c.args.place in
    let a : p % 4294967296 / 16777216 % 256 ≡ p / 256 / 256 / 256 % 256 = omega arith in
    let b : p % 4294967296 / 65536 % 256 ≡ p / 256 / 256 % 256 = omega arith in
    let d : p % 4294967296 / 256 % 256 ≡ p / 256 % 256 = omega arith in
    let e : p % 4294967296 % 256 ≡ p % 256 = omega arith in
    c.to_be_bytes.ensures ∙ simp (a, b, d, e)
