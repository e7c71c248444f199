use mathlib.Core.Path.{◌≡◌, ap, sym, ◌∙◌}
use Prim.Native.Nat.{ℕ, ◌+◌, ◌-◌, ◌≤◌}
use native.Mathlib.Omega.{arith}
use lib.ListN.{length, take, drop, length-drop}
use lib.Seq.{length-take-le}
use Rattle.std.proofs.lemmas.Slice.{put_mid-paste}
use Rattle.hash.proofs.BlockLaws.{put_part}
use Rattle.hash.proofs.put.Goals as goal

pub returns : goal.returns
returns c = let a = c.args in
    let s = drop a.from a.m.now in
    let e : a.from + a.n - a.from ≡ a.n = omega arith in
    let h : a.n ≤ length s = simp length-drop (omega arith) in
    put_mid-paste a.at _ a.b _ (take a.n s) a.n (c.copy_from_slice.ensures.after ∙ ap (λ (k : ℕ). take k s) e) (omega arith) (sym (length-take-le a.n s h))
    ∙ put_part a.b s a.at a.n h
