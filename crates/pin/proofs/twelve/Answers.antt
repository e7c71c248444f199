use borrow.Author.Rules.{rules}
use mathlib.Core.Path.{◌≡◌, sym, ap, ◌∙◌}
use mathlib.Core.List.{List, ◌++◌}
use Prim.Native.Nat.{ℕ, ◌+◌, ◌-◌}
use native.Mathlib.Omega.{arith}
use native.Mathlib.Nat.{zero-add}
use lib.ListN.{length, set, get_or, take, drop, replicate, length-drop}
use lib.Seq.{paste, paste-zero, get_or-drop}
use Rattle.octets.proofs.Parts.{made_turn, drop-zeros}
use Rattle.pin.proofs.twelve.Goals as goal

pub loop-i-init : goal.loop-i-init
loop-i-init c = paste-zero _ 0 (drop 2 c.args.h)

pub loop-i-preserved : goal.loop-i-preserved
loop-i-preserved c = let l = c.loop-i in
    let h = c.args.h in
    let k : length h ≡ 16 = search rules in
    let j : length (drop 2 h) ≡ length h - 2 = length-drop 2 h in
    ap (λ (s : List ℕ). set s l.i (get_or h (2 + l.i) 0)) l.invariant ∙ made_turn (replicate 12 0) (drop 2 h) l.i (get_or h (2 + l.i) 0) (omega arith) (omega arith) (sym (get_or-drop 2 h l.i 0))

pub returns : goal.returns
returns c = let l = c.loop-i in
    let a = c.args in
    let e : l.i ≡ a.n = omega arith in
    l.invariant ∙ ap (paste (replicate 12 0) 0 (drop 2 a.h)) e
    ∙ ap (λ (z : List ℕ). take a.n (drop 2 a.h) ++ z) (ap (λ (k : ℕ). drop k (replicate 12 0)) (zero-add a.n) ∙ drop-zeros a.n 12)
