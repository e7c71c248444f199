use Rattle.std.proofs.Common.{◌≡◌, ◌%◌, ◌/◌, List, [], ◌∷◌, ℕ, get_or, ap, arith}
use Rattle.octets.specs.Numbers.{le_octets}
use Rattle.octets.proofs.octet.Goals as goal

written : (x : ℕ) (s : List ℕ) → s ≡ x % 256 ∷ x / 256 % 256 ∷ x / 65536 % 256 ∷ x / 16777216 % 256 ∷ x / 4294967296 % 256 ∷ x / 1099511627776 % 256 ∷ x / 281474976710656 % 256 ∷ x / 72057594037927936 % 256 ∷ [] → s ≡ le_octets 8 x
unfolding le_octets
written x s h =
    let e2 : x / 256 / 256 ≡ x / 65536 = omega arith in
    let e3 : x / 65536 / 256 ≡ x / 16777216 = omega arith in
    let e4 : x / 16777216 / 256 ≡ x / 4294967296 = omega arith in
    let e5 : x / 4294967296 / 256 ≡ x / 1099511627776 = omega arith in
    let e6 : x / 1099511627776 / 256 ≡ x / 281474976710656 = omega arith in
    let e7 : x / 281474976710656 / 256 ≡ x / 72057594037927936 = omega arith in
    rw (e2, e3, e4, e5, e6, e7) h

pub returns : goal.returns
returns c = ap (λ (s : List ℕ). get_or s (c.args.i % 8) 0) (written c.args.x _ c.to_le_bytes.ensures)
