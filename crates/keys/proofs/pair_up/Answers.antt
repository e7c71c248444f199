use mathlib.Core.Path.{◌≡◌, refl, sym, ap, ◌∙◌}
use mathlib.Core.List.{List}
use Prim.Native.Nat.{ℕ, ◌+◌, ◌*◌}
use native.Mathlib.Omega.{arith}
use borrow.Author.Rules.{rules}
use lib.ListN.{length, set, get_or, replicate}
use lib.Seq.{paste}
use Rattle.octets.proofs.Parts.{made_turn, made_end}
use Rattle.octets.proofs.DigitLaws.{digits_at, length_pairs}
use Rattle.octets.specs.Digits.{pairs}
use Rattle.keys.proofs.CardLaws.{pairs-at, pair_fits}
use Rattle.keys.proofs.pair_up.Goals as goal

pub overflow_mul-out-in-loop-i : goal.overflow_mul-out-in-loop-i
overflow_mul-out-in-loop-i c = let i = c.loop-i.i in
    let h = pair_fits c.args.base (get_or c.args.s (2 * i) 0) 0 c.requires.0 (digits_at 0 16 c.args.s c.requires.1 (2 * i) (omega arith)) (omega arith) in
    omega (arith, h.0)

pub overflow_add-out-in-loop-i : goal.overflow_add-out-in-loop-i
overflow_add-out-in-loop-i c = let i = c.loop-i.i in
    let d = digits_at 0 16 c.args.s c.requires.1 in
    let h = pair_fits c.args.base (get_or c.args.s (2 * i) 0) (get_or c.args.s (2 * i + 1) 0) c.requires.0 (d (2 * i) (omega arith)) (d (2 * i + 1) (omega arith)) in
    omega (arith, h.1)

pub loop-i-preserved : goal.loop-i-preserved
loop-i-preserved c = let x = c.args in
    let l = c.loop-i in
    let n : length x.s ≡ 16 = search rules in
    let m : length (pairs x.base x.s) ≡ 8 = length_pairs x.base x.s 8 n in
    let v = x.base * get_or x.s (2 * l.i) 0 + get_or x.s (2 * l.i + 1) 0 in
    ap (λ (s : List ℕ). set s l.i v) l.invariant
    ∙ made_turn (replicate 8 0) (pairs x.base x.s) l.i v (omega arith) (omega arith) (sym (pairs-at x.base x.s l.i (2 * l.i) refl (omega arith)))

pub returns : goal.returns
returns c = let x = c.args in
    let l = c.loop-i in
    let n : length x.s ≡ 16 = search rules in
    let e : l.i ≡ 8 = omega arith in
    l.invariant ∙ ap (paste (replicate 8 0) 0 (pairs x.base x.s)) e ∙ made_end (replicate 8 0) (pairs x.base x.s) 8 refl (length_pairs x.base x.s 8 n)
