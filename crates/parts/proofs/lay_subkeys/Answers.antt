-- `parts::lay_subkeys` meets its contract: the octets of the subkeys so far, one subkey a turn. Assumes nothing.
use mathlib.Core.Path.{◌≡◌, refl, ap, ◌∙◌}
use mathlib.Core.List.{List}
use Prim.Native.Nat.{ℕ, ◌*◌, ◌<◌}
use native.Mathlib.Omega.{arith}
use lib.ListN.{length, take}
use lib.Seq.{paste, paste-zero, take_all}
use Rattle.parts.specs.Forms.{octets_of}
use Rattle.parts.proofs.LayLaws.{octets_turn}
use borrow.Author.Rules.{rules}
use Rattle.parts.proofs.lay_subkeys.Goals as goal

pub loop-i-init : goal.loop-i-init
loop-i-init c = let a = c.args in
    (refl, paste-zero a.b.now 0 (octets_of (take 0 a.ks)))

pub loop-i-preserved : goal.loop-i-preserved
loop-i-preserved c = let l = c.loop-i in
    let a = c.args in
    let k : length a.ks ≡ 8 = search rules in
    let h : l.i < 8 = search rules in (
      search rules,
      octets_turn a.b.now a.ks l.i h k c.requires c.word_octets.ensures l.invariant.1 c.lay.ensures,
    )

pub shape_of-b : goal.shape_of-b
shape_of-b c = c.loop-i.invariant.0

pub returns : goal.returns
returns c = let l = c.loop-i in
    let a = c.args in
    let k : length a.ks ≡ 8 = search rules in
    let e : l.i ≡ 8 = omega arith in
    l.invariant.1 ∙ ap (λ (j : ℕ). paste a.b.now 0 (octets_of (take j a.ks)) (4 * j)) e
    ∙ ap (λ (s : List ℕ). paste a.b.now 0 (octets_of s) 32) (take_all 8 a.ks (omega arith))
