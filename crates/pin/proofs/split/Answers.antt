use mathlib.Core.Path.{◌≡◌, refl, ap, ◌∙◌}
use mathlib.Core.List.{List}
use Prim.Native.Nat.{ℕ, ◌+◌, ◌*◌, ◌/◌, ◌%◌, ◌<◌}
use native.Mathlib.Omega.{arith}
use lib.ListN.{length, get_or, set, replicate}
use lib.Seq.{paste, paste-zero}
use Rattle.octets.proofs.Parts.{made_turn, made_end}
use Rattle.pin.specs.PinBlock.{nibbles}
use Rattle.pin.proofs.BlockLaws.{halved_at, halved_length}
use borrow.Author.Rules.{rules}
use Rattle.pin.proofs.split.Goals as goal

pub loop-i-init : goal.loop-i-init
loop-i-init c = (omega arith, paste-zero _ 0 (nibbles c.args.b))

pub loop-i-preserved : goal.loop-i-preserved
loop-i-preserved c = let l = c.loop-i in
    let b = c.args.b in
    let k : length b ≡ 8 = search rules in
    let g : l.i < 8 = search rules in
    let n : length (nibbles b) ≡ 16 = halved_length b k in
    let x = get_or b l.i 0 / 16 in
    let y = get_or b l.i 0 % 16 in
    let q = halved_at b l.i k g in
    let z : 2 * l.i + 1 + 1 ≡ 2 * (l.i + 1) = omega arith in (
      omega arith,
      ap (λ (s : List ℕ). set (set s (2 * l.i) x) (2 * l.i + 1) y) l.invariant.1
          ∙ ap (λ (s : List ℕ). set s (2 * l.i + 1) y) (made_turn (replicate 16 0) (nibbles b) (2 * l.i) x (omega arith) (omega arith) q.0)
          ∙ made_turn (replicate 16 0) (nibbles b) (2 * l.i + 1) y (omega arith) (omega arith) q.1
          ∙ ap (paste (replicate 16 0) 0 (nibbles b)) z,
    )

pub returns : goal.returns
returns c = let l = c.loop-i in
    let b = c.args.b in
    let e : 2 * l.i ≡ 16 = omega arith in
    l.invariant.1 ∙ ap (paste (replicate 16 0) 0 (nibbles b)) e ∙ made_end (replicate 16 0) (nibbles b) 16 refl (halved_length b (search rules))
