use Rattle.std.proofs.Common.{◌≡◌, ℕ, ◌+◌, ◌*◌, ◌/◌, ◌%◌, ◌^◌, ◌<◌, sym, ap, ◌∙◌, arith, rules}
use lib.Bits.{bit_or, or_shifted}
use Rattle.gost.specs.Gost.{mixed, shifted}
use Rattle.gost.proofs.mix.Goals as goal

rotated : (y : ℕ) → y < 2 ^ 32 → bit_or (y * 2 ^ 11 % 2 ^ 32) (y / 2 ^ 21) ≡ shifted y
unfolding shifted
rotated y h =
    let e : y * 2 ^ 11 % 2 ^ 32 ≡ y % 2 ^ 21 * 2 ^ 11 = omega arith in
    ap (λ (a : ℕ). bit_or a (y / 2 ^ 21)) e ∙ or_shifted (y % 2 ^ 21) 11 (y / 2 ^ 21) (omega arith) ∙ ap (λ (a : ℕ). a + y / 2 ^ 21) (sym e)

pub returns : goal.returns
unfolding mixed
returns c =
    c.rotate_left.ensures
    ∙ rotated c.substitute.result (search rules)
    ∙ ap shifted c.substitute.ensures
