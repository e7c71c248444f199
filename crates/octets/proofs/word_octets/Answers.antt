use Rattle.std.proofs.Common.{◌≡◌, ◌/◌, arith}
use Rattle.octets.specs.Numbers.{le_octets}
use Rattle.octets.proofs.word_octets.Goals as goal

pub returns : goal.returns
unfolding le_octets
returns c = let x = c.args.x in
    let e2 : x / 256 / 256 ≡ x / 65536 = omega arith in
    let e3 : x / 65536 / 256 ≡ x / 16777216 = omega arith in
    rw (e2, e3) c.to_le_bytes.ensures
