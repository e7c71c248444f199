use Rattle.std.proofs.Common.{◌≡◌, ℕ, ◌+◌, ◌*◌, ◌<◌, List, [], ◌++◌, length, get_or, take, drop, sym, refl, ap, ◌∙◌, ap₂, append-nil, arith, rules}
use lib.Seq.{paste}
use Rattle.lps.specs.Vectors.{X, LPS}
use Rattle.lps.proofs.Words.{length-LPS}
use Rattle.lps.proofs.Columns.{turned}
use Rattle.rounds.specs.Keys.{schedule, keys_of}
use Rattle.rounds.proofs.LentLaws.{laid_in}
use Rattle.rounds.proofs.KeyLaws.{schedule_turn, schedule_end, filled_turn, filled_end}
use Rattle.rounds.proofs.round_keys.Goals as goal

pub loop-i-init : goal.loop-i-init
loop-i-init c = let a = c.args in
    let e : length a.h ≡ 8 = search rules in
    (omega arith, ap length (c.turn.ensures ∙ turned a.h (X a.h a.n) e) ∙ length-LPS (X a.h a.n), (refl, refl))

pub loop-i-preserved : goal.loop-i-preserved
loop-i-preserved c = let l = c.loop-i in
    let first = c.turn in
    let cs = c.iteration_constants-c.result in
    let all = schedule cs first.new.s in
    let m : length cs ≡ 12 = search rules in
    let h : l.i < length cs = omega arith in
    let v = get_or cs l.i [] in
    let next = LPS (X l.k v) in
    let k = c.turn-in-loop-i.ensures ∙ turned l.k (X l.k v) l.invariant.1 in
    let q = c.lay.ensures ∙ laid_in l.b (8 * l.i) l.k 8 l.invariant.1 (omega (arith, l.invariant.2.0)) in
    let f = l.invariant.2 in
    let t =
    filled_turn all (8 * l.i) l.b l.k (schedule (drop (l.i + 1) cs) next) (omega arith) l.invariant.1
    (f.0, ap (λ (x : List ℕ). take (8 * l.i) l.b ++ x) (sym (schedule_turn cs l.i l.k h)) ∙ f.1) in
    let e : 8 * (l.i + 1) ≡ 8 * l.i + 8 = omega arith in (
      omega arith,
      ap length k ∙ length-LPS (X l.k v),
      (
        ap length q ∙ t.0,
        ap₂ (λ (p : ℕ) (x : List ℕ). take p x ++ schedule (drop (l.i + 1) cs) c.turn-in-loop-i.new.s) e q
            ∙ ap (λ (y : List ℕ). take (8 * l.i + 8) (paste l.b (8 * l.i) l.k 8) ++ schedule (drop (l.i + 1) cs) y) k
            ∙ t.1,
      ),
    )

pub returns : goal.returns
unfolding keys_of
returns c = let l = c.loop-i in
    let first = c.turn in
    let made = c.iteration_constants-c in
    let a = c.args in
    let cs = made.result in
    let all = schedule cs first.new.s in
    let m : length cs ≡ 12 = search rules in
    let e : 96 ≡ 8 * l.i = omega (arith, l.invariant.0) in
    let d : length a.h ≡ 8 = search rules in
    let f = l.invariant.2 in
    let t =
    filled_turn all 96 l.b l.k [] (omega arith) l.invariant.1
    (f.0, ap₂ (λ (p : ℕ) (x : List ℕ). take p l.b ++ x) e (append-nil l.k ∙ sym (schedule_end cs l.i l.k (omega arith))) ∙ f.1) in
    c.lay-2.ensures
    ∙ laid_in l.b 96 l.k 8 l.invariant.1 (omega (arith, f.0))
    ∙ filled_end all (paste l.b 96 l.k 8) t
    ∙ ap₂ schedule made.ensures (first.ensures ∙ turned a.h (X a.h a.n) d)
