use mathlib.Core.Path.{◌≡◌, refl, sym, ap, ◌∙◌}
use mathlib.Core.List.{List}
use native.Mathlib.Omega.{arith}
use Prim.Native.Nat.{ℕ}
use lib.ListN.{set}
use lib.Seq.{paste}
use Rattle.octets.proofs.Parts.{zeros, made_turn, made_end}
use Rattle.gost.specs.Gost.{subkeys}
use Rattle.gost.proofs.Octets.{get_or-subkeys, length-subkeys}
use Rattle.cipher.proofs.expand.Goals as goal

pub loop-i-init : goal.loop-i-init
loop-i-init c = refl

pub loop-i-preserved : goal.loop-i-preserved
loop-i-preserved c =
    let key = c.args.key in
    let i = c.loop-i.i in
    ap (λ (d : List ℕ). set d i c.word_at.result) c.loop-i.invariant
    ∙ made_turn (zeros 8) (subkeys 8 key) i _ (omega arith) (omega (arith, length-subkeys 8 key)) (c.word_at.ensures ∙ sym (get_or-subkeys 8 i key (omega arith)))

pub returns : goal.returns
returns c =
    let key = c.args.key in
    let e : c.loop-i.i ≡ 8 = omega arith in
    c.loop-i.invariant ∙ ap (paste (zeros 8) 0 (subkeys 8 key)) e ∙ made_end (zeros 8) (subkeys 8 key) 8 refl (length-subkeys 8 key)
