use mathlib.Core.Path.{◌≡◌, sym, ap, ap₂, ◌∙◌}
use mathlib.Core.List.{List}
use Prim.Native.Nat.{ℕ, ◌+◌, ◌*◌, ◌≤◌}
use native.Mathlib.Omega.{arith}
use lib.Dec.{lit<}
use lib.ListN.{length, take, drop, length-drop}
use lib.Seq.{drop-drop}
use Rattle.blocks.specs.Blocks.{absorbed}
use Rattle.blocks.proofs.Laws.{absorbed_step, absorbed_end}
use Rattle.rounds.specs.Rounds.{constants, g_over, g}
use Rattle.hash.specs.Hash.{after_block, advanced, block_step}
use Rattle.hash.proofs.absorb.Goals as goal

pub returns-then-blocks-eq0 : goal.returns-then-blocks-eq0
returns-then-blocks-eq0 c = let a = c.args in
    sym (absorbed_end 64 (lit< tt) block_step a.c (drop a.from a.m.now) (simp length-drop (omega arith)))

pub loop-i-init : goal.loop-i-init
loop-i-init c = let a = c.args in
    let e : a.from + 64 * 0 ≡ a.from = omega arith in
    ap (λ (p : ℕ). absorbed 64 block_step a.c (drop p a.m.now)) e

pub loop-i-preserved : goal.loop-i-preserved
unfolding block_step advanced g
loop-i-preserved c = let l = c.loop-i in
    let m = c.args.m.now in
    let p = c.args.from + 64 * l.i in
    let cs = c.iteration_constants-cs.ensures in
    let b = c.load-b.result in
    let h : 64 ≤ length (drop p m) = simp length-drop (omega arith) in
    let next : c.args.from + 64 * (l.i + 1) ≡ p + 64 = omega arith in
    let e : c.after_block-core.result ≡ block_step l.core (take 64 (drop p m)) =
    c.after_block-core.ensures
    ∙ ap (λ (x : List ℕ). after_block l.core x 512 b) (c.compress_over.ensures ∙ ap (λ (x : List (List ℕ)). g_over x l.core.n l.core.h b) cs)
    ∙ ap (λ (x : List ℕ). after_block l.core (g_over constants l.core.n l.core.h x) 512 x) c.load-b.ensures in
    ap₂ (absorbed 64 block_step) e (ap (λ (q : ℕ). drop q m) next ∙ sym (drop-drop 64 p m))
    ∙ sym (absorbed_step 64 (lit< tt) block_step l.core (drop p m) h)
    ∙ l.invariant

pub returns : goal.returns
returns c = let l = c.loop-i in
    let m = c.args.m.now in
    sym (absorbed_end 64 (lit< tt) block_step l.core (drop (c.args.from + 64 * l.i) m) (simp length-drop (omega arith))) ∙ l.invariant
