use mathlib.Core.Path.{◌≡◌, refl, ap, ◌∙◌}
use mathlib.Core.List.{List}
use Prim.Native.Nat.{ℕ, ◌+◌, ◌*◌, ◌%◌, ◌<◌}
use native.Mathlib.Omega.{arith}
use lib.ListN.{length, get_or, set, replicate}
use lib.Seq.{paste, paste-zero}
use Rattle.octets.proofs.Parts.{made_turn, made_end}
use Rattle.pin.proofs.BlockLaws.{joined_at, joined_length}
use borrow.Author.Rules.{rules}
use Rattle.pin.proofs.join.Invariants.{made}
use Rattle.pin.proofs.join.Goals as goal

pub loop-i-init : goal.loop-i-init
loop-i-init c = (omega arith, paste-zero _ 0 (made c.args.h))

pub loop-i-preserved : goal.loop-i-preserved
loop-i-preserved c = let l = c.loop-i in
    let h = c.args.h in
    let k : length h ≡ 16 = search rules in
    let g : l.i < 8 = search rules in
    let n : length (made h) ≡ 8 = joined_length h k in
    let v = 16 * (get_or h (2 * l.i) 0 % 16) + get_or h (2 * l.i + 1) 0 % 16 in (
      omega arith,
      ap (λ (s : List ℕ). set s l.i v) l.invariant.1 ∙ made_turn (replicate 8 0) (made h) l.i v g (omega arith) (joined_at h l.i k g),
    )

pub returns : goal.returns
returns c = let l = c.loop-i in
    let h = c.args.h in
    let e : l.i ≡ 8 = omega arith in
    l.invariant.1 ∙ ap (paste (replicate 8 0) 0 (made h)) e ∙ made_end (replicate 8 0) (made h) 8 refl (joined_length h (search rules))
