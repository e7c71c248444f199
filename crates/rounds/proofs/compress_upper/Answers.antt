use Rattle.std.proofs.Common.{◌≡◌, ℕ, ◌+◌, ◌<◌, ◌≤◌, List, [], length, get_or, drop, refl, ap, ◌∙◌, ap₂, arith, rules}
use Rattle.lps.specs.Vectors.{X, LPS}
use Rattle.lps.proofs.Words.{length-LPS}
use Rattle.lps.proofs.Columns.{turned}
use Rattle.rounds.specs.Rounds.{E, g_over}
use Rattle.rounds.proofs.KeyLaws.{rounds_turn, rounds_end, rounds-last, upper_made, others_at, last_at}
use Rattle.rounds.proofs.compress_upper.Goals as goal

pub returns-in_default : goal.returns-in_default
unfolding g_over
returns-in_default c = let a = c.args in
    let first = c.turn in
    let cs = a.c.now in
    let e : length a.h ≡ 8 = search rules in
    let z : length cs ≤ 0 = omega (arith, c.in_default.ensures.cases) in
    c.upper_sum.ensures
    ∙ ap (λ (x : List ℕ). drop 4 (X (X x a.h) a.m))
    (rounds_end cs 0 first.new.s a.m z ∙ ap (λ (k : List ℕ). E cs k a.m) (first.ensures ∙ turned a.h (X a.h a.n) e))

pub loop-x-init : goal.loop-x-init
loop-x-init c = let a = c.args in
    let n : length a.m ≡ 8 = search rules in
    let e : length a.h ≡ 8 = search rules in
    (ap length (c.turn.ensures ∙ turned a.h (X a.h a.n) e) ∙ length-LPS (X a.h a.n), n, refl)

pub loop-x-preserved : goal.loop-x-preserved
loop-x-preserved c = let l = c.loop-x in
    let cs = c.args.c.now in
    let others = c.in-Some.others.now in
    let split = c.in-Some.ensures.cases in
    let h : l.x-index < length others = search rules in
    let v = get_or cs l.x-index [] in
    let at = others_at cs others c.in-Some.last.now split.0 l.x-index h in
    let k = c.turn-in-loop-x-2.ensures ∙ turned l.k (X l.k (get_or others l.x-index [])) l.invariant.0 ∙ ap (λ (x : List ℕ). LPS (X l.k x)) at in
    let s = c.turn-in-loop-x.ensures ∙ turned l.s (X l.s l.k) l.invariant.1 in (
      ap length k ∙ length-LPS (X l.k v),
      ap length s ∙ length-LPS (X l.s l.k),
      ap₂ (E (drop (l.x-index + 1) cs)) k s ∙ rounds_turn cs l.x-index l.k l.s (omega (arith, h, split.1)) ∙ l.invariant.2,
    )

pub returns : goal.returns
unfolding g_over
returns c = let l = c.loop-x in
    let first = c.turn in
    let a = c.args in
    let cs = a.c.now in
    let e : length a.h ≡ 8 = search rules in
    let others = c.in-Some.others.now in
    let last = c.in-Some.last.now in
    let split = c.in-Some.ensures.cases in
    let i : length others ≡ l.x-index = omega arith in
    let v = LPS (X l.k last) in
    let w = LPS (X l.s l.k) in
    c.upper_sum-2.ensures
    ∙ ap₂ (λ (k s : List ℕ). drop 4 (X (X (X k s) a.h) a.m)) c.turn_upper-2.ensures c.turn_upper.ensures
    ∙ upper_made l.k l.s v w a.h a.m l.invariant.0 l.invariant.1 (length-LPS (X l.k last)) (length-LPS (X l.s l.k))
    ∙ ap (λ (x : List ℕ). drop 4 (X (X x a.h) a.m))
    (ap (λ (x : List ℕ). X (LPS (X l.k x)) w) (last_at cs others last split.0 ∙ ap (λ (j : ℕ). get_or cs j []) i)
    ∙ rounds-last cs l.x-index l.k l.s (omega (arith, split.1, i))
    ∙ l.invariant.2
    ∙ ap (λ (k : List ℕ). E cs k a.m) (first.ensures ∙ turned a.h (X a.h a.n) e))
