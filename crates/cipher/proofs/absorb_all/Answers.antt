use mathlib.Core.Path.{◌≡◌, sym, ap, ap₂, ◌∙◌}
use mathlib.Core.List.{List, ◌++◌}
use Prim.Native.Nat.{ℕ, ◌≤◌}
use native.Mathlib.Omega.{arith}
use lib.Dec.{lit<}
use lib.ListN.{length, length-append}
use lib.Seq.{take_at, drop_at}
use Rattle.std.specs.Slice.Iter.{chunks_exact_size, chunks_exact_rest}
use Rattle.blocks.specs.Blocks.{absorbed}
use Rattle.blocks.proofs.Laws.{absorbed_step, absorbed_end}
use Rattle.gost.specs.declared.Halves.{Halves}
use Rattle.gost.specs.Gost.{rounds}
use Rattle.cipher.specs.Code.{added, code_step}
use Rattle.cipher.proofs.absorb_all.Goals as goal

-- a block in front of others
chunk : (ks : List ℕ) (s t : Halves) (b m r : List ℕ) → r ≡ b ++ m → length b ≡ 8 → t ≡ code_step ks s b → absorbed 8 (code_step ks) t m ≡ absorbed 8 (code_step ks) s r
chunk ks s t b m r e l h =
    let f = code_step ks in
    let n : 8 ≤ length (b ++ m) = simp length-append (omega arith) in
    ap (λ (x : Halves). absorbed 8 f x m) h
    ∙ sym
    (ap (absorbed 8 f s) e
    ∙ absorbed_step 8 (lit< tt) f s (b ++ m) n
    ∙ ap₂ (λ (x y : List ℕ). absorbed 8 f (f s x) y) (take_at b m 8 l) (drop_at b m 8 l))

pub loop-b-init : goal.loop-b-init
loop-b-init c = let x = c.args in
    let i = c.into_iter-b-iterator.ensures.into_iter_gives in
    let h = c.chunks_exact-b-items.ensures in
    (ap chunks_exact_size i ∙ h.size, ap (absorbed 8 (code_step x.k) x.s) (ap chunks_exact_rest i ∙ h.rest))

pub halves_of-requires : goal.halves_of-requires
halves_of-requires c = c.in-Some.ensures.steps.1.1 ∙ c.loop-b.invariant.0

pub loop-b-preserved : goal.loop-b-preserved
unfolding code_step
loop-b-preserved c = let x = c.args in
    let l = c.loop-b in
    let h = c.in-Some.ensures.steps in
    let e = c.absorb-t.ensures ∙ ap (λ (b : Halves). rounds (x.k ++ x.k) (added l.t b)) c.halves_of.ensures in
    (h.0 ∙ l.invariant.0, chunk x.k l.t _ _ _ _ h.1.0 (h.1.1 ∙ l.invariant.0) e ∙ l.invariant.1)

pub returns : goal.returns
returns c = let l = c.loop-b in
    let h = c.in-None.ensures.steps in
    sym (absorbed_end 8 (lit< tt) (code_step c.args.k) l.t _ (omega (arith, h.1.0, l.invariant.0))) ∙ l.invariant.1
