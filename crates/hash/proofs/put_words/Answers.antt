use Rattle.std.proofs.Common.{◌≡◌, ℕ, ◌+◌, ◌*◌, List, ◌++◌, length, get_or, sym, refl, ap, ap₂, ◌∙◌, arith, rules, take_all}
use Rattle.std.proofs.lemmas.Slice.{take-put_mid}
use Rattle.octets.specs.Numbers.{le_octets}
use Rattle.lps.specs.Vectors.{bytes}
use Rattle.lps.proofs.Bytes.{bytes_low_first_lem}
use Rattle.hash.proofs.BlockLaws.{bytes_turn}
use Rattle.hash.proofs.put_words.Goals as goal

pub loop-i-init : goal.loop-i-init
unfolding bytes
loop-i-init c = refl

pub loop-i-preserved : goal.loop-i-preserved
loop-i-preserved c = let l = c.loop-i in
    let v = c.args.v.now in
    let x = c.copy_from_slice.new.self in
    let e : x ≡ le_octets 8 (get_or v l.i 0) = c.copy_from_slice.ensures.after ∙ c.to_le_bytes.ensures ∙ bytes_low_first_lem 8 (get_or v l.i 0) in
    let n : length l.r ≡ 8 * length v = search rules in
    let h : length x ≡ 8 = search rules in
    take-put_mid (8 * l.i) _ l.r x (8 * (l.i + 1)) (omega arith) (omega arith)
    ∙ ap₂ (λ (s t : List ℕ). s ++ t) l.invariant e
    ∙ bytes_turn v l.i (omega arith)

pub returns : goal.returns
returns c = let l = c.loop-i in
    let v = c.args.v.now in
    let n : length l.r ≡ 8 * length v = search rules in
    sym (take_all (8 * l.i) l.r (omega arith)) ∙ l.invariant ∙ ap bytes (take_all l.i v (omega arith))
