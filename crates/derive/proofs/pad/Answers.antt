use mathlib.Core.Path.{◌≡◌, ap, ◌∙◌}
use mathlib.Core.List.{List}
use Prim.Native.Nat.{ℕ}
use native.Mathlib.Omega.{arith}
use borrow.Author.Rules.{rules}
use lib.Bits.{bit_xor}
use lib.ListN.{length, set, get_or, replicate}
use lib.Seq.{paste, paste-zero}
use Rattle.derive.specs.Hmac.{key_pad}
use Rattle.derive.proofs.PadLaws.{pad_turn, pad_end}
use Rattle.derive.proofs.pad.Goals as goal

pub loop-i-init : goal.loop-i-init
loop-i-init c = paste-zero _ 0 (key_pad c.args.p c.args.key)

pub loop-i-preserved : goal.loop-i-preserved
loop-i-preserved c = let l = c.loop-i in
    let a = c.args in
    let h : length a.key ≡ 32 = search rules in
    ap (λ (s : List ℕ). set s l.i (bit_xor (get_or a.key l.i 0) a.p)) l.invariant ∙ pad_turn a.p a.key h l.i (search rules)

pub returns : goal.returns
returns c = let l = c.loop-i in
    let a = c.args in
    let h : length a.key ≡ 32 = search rules in
    let e : l.i ≡ 32 = omega arith in
    l.invariant ∙ ap (paste (replicate 64 a.p) 0 (key_pad a.p a.key)) e ∙ pad_end a.p a.key h
