use mathlib.Core.Path.{◌≡◌, refl, ap, ◌∙◌}
use mathlib.Core.List.{List, []}
use Prim.Native.Nat.{ℕ, ◌+◌, ◌-◌, ◌%◌, ◌≤◌}
use native.Mathlib.Omega.{arith}
use lib.Dec.{lit<}
use lib.ListN.{length, take, drop, length-drop}
use lib.Seq.{take_all}
use Rattle.blocks.specs.Parts.{filled, poured}
use Rattle.cipher.specs.declared.Coding.{Coding}
use Rattle.cipher.specs.Coding.{coding_of, held, code_way}
use Rattle.cipher.proofs.CodingLaws.{ready_coding, ready_of, ready_halves, length_held_of, pour_short, pour_long}
use borrow.Author.Rules.{rules}
use Rattle.cipher.proofs.pour.Goals as goal

pub push_all-begun-requires : goal.push_all-begun-requires
unfolding coding_of filled
push_all-begun-requires c = let s = c.args.s in ready_coding s.subkeys s.halves [] s.total (lit< tt)

pub push_all-requires : goal.push_all-requires
push_all-requires c = ready_of _ _ _ _ c.push_all-begun.ensures

pub returns-then-m-need : goal.returns-then-m-need
unfolding coding_of filled held
returns-then-m-need c = let s = c.args.s in
    pour_short s c.args.m.now _ _ c.push_all-begun.ensures c.push_all.ensures

pub push_all-edge-requires : goal.push_all-edge-requires
push_all-edge-requires c = ready_of _ _ _ _ c.push_all-begun.ensures

pub push_all-requires-2 : goal.push_all-requires-2
push_all-requires-2 c = ready_halves _ _ (ready_of _ _ _ _ c.push_all-edge.ensures)

pub returns : goal.returns
unfolding coding_of filled held
returns c = let s = c.args.s in
    let m = c.args.m.now in
    let at = s.fill % 8 in
    let need = (8 - at) % 8 in
    let left = (length m - need) % 8 in
    let end = length m - left in
    let b : length s.buffer ≡ 8 = search (rules, c.well_formed) in
    let n : length (take at s.buffer) ≡ at = length_held_of s b in
    let le : need ≤ length m = c.if-m-need.false in
    let lo : need ≤ end = omega arith in
    let hi : end ≤ length m = omega arith in
    let hn : (length (take at s.buffer) + need) % 8 ≡ 0 = ap (λ (k : ℕ). (k + need) % 8) n ∙ omega arith in
    let he : (end - need) % 8 ≡ 0 = omega arith in
    let begun = c.push_all-begun in
    let edge = c.push_all-edge in
    let rest : take (length m - end) (drop end m) ≡ drop end m = take_all (length m - end) (drop end m) (simp length-drop (omega arith)) in
    let full = c.absorb_all-edge in
    let t : Coding =
    record { subkeys = edge.result.subkeys; halves = full.result; buffer = edge.result.buffer; fill = edge.result.fill; total = edge.result.total } in
    pour_long s m need end lo hi hn he begun.result edge.result t _ full.result
    begun.ensures
    edge.ensures
    full.ensures
    refl
    (c.push_all-2.ensures ∙ ap (λ (x : List ℕ). poured code_way t x t.total) rest)
