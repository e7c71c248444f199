use mathlib.Core.Path.{◌≡◌, ap, ◌∙◌}
use Prim.Native.Nat.{◌<◌}
use native.Mathlib.Omega.{arith}
use lib.ListN.{length, set, length-set}
use lib.Seq.{take_all}
use Rattle.lps.specs.Vectors.{words}
use Rattle.hash.proofs.AheadLaws.{padded_put, last_long, last_short}
use borrow.Author.Rules.{rules}
use Rattle.hash.proofs.last_block.Goals as goal

pub returns-then-m-ge64 : goal.returns-then-m-ge64
returns-then-m-ge64 c = last_long _ c.if-m-ge64.true

pub load-requires : goal.load-requires
load-requires c = let p = c.put-last in
    let n : length p.result ≡ 64 = search (rules, p.type_inv) in
    simp length-set (omega arith)

pub returns : goal.returns
returns c = let m = c.args.m.now in
    let h : length m < 64 = omega arith in
    let p = c.put-last in
    let n : length p.result ≡ 64 = search (rules, p.type_inv) in
    let l : 64 ≡ length (set p.result (length m) 1) = simp length-set (omega arith) in
    c.load.ensures
    ∙ ap words (take_all 64 (set p.result (length m) 1) (omega arith) ∙ ap (λ b. set b (length m) 1) p.ensures ∙ padded_put m h)
    ∙ last_short m h
