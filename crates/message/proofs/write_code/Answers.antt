use mathlib.Core.Path.{◌≡◌, sym, ap, ap₂, ◌∙◌}
use mathlib.Core.List.{List}
use Prim.Native.Nat.{ℕ, ◌+◌}
use native.Mathlib.Omega.{arith}
use lib.ListN.{length, take}
use lib.Seq.{length-take-le}
use Rattle.shapes.specs.Shape.{body_size, body_size_under}
use Rattle.shapes.proofs.LengthLaws.{largest_small, place_small}
use Rattle.message.specs.Code.{code_for}
use Rattle.octets.specs.Laid.{laid}
use Rattle.message.proofs.WrapLaws.{copied}
use borrow.Author.Rules.{rules}
use Rattle.message.proofs.write_code.Goals as goal

pub overflow_add-k : goal.overflow_add-k
overflow_add-k c = record { fits = omega (arith, place_small c.args.n, largest_small) }

pub overflow_add-k-2 : goal.overflow_add-k-2
overflow_add-k-2 c = record { fits = omega (arith, place_small c.args.n, largest_small) }

pub slice_bounds-code_for-end-2 : goal.slice_bounds-code_for-end-2
slice_bounds-code_for-end-2 c = sym (length-take-le _ c.args.part.now (omega arith))

pub code_for-code-requires : goal.code_for-code-requires
code_for-code-requires c = let k = c.place_of.result + c.args.n + 2 in
    let l : length (take k c.args.part.now) ≡ k = length-take-le k c.args.part.now (omega arith) in
    (c.requires.0, omega (arith, place_small c.args.n, largest_small))

pub returns : goal.returns
unfolding body_size_under
returns c =
    let x = c.args in
    let b = x.part.now in
    let k = c.place_of.result + x.n + 2 in
    let e : k ≡ body_size x.n = ap (λ (p : ℕ). p + x.n + 2) c.place_of.ensures in
    let l : length c.code_for-code.result ≡ 4 = search rules in
    copied b k _ c.code_for-code.result _ c.copy_from_slice.ensures.after (omega (arith, l))
    ∙ ap₂ (λ (p : ℕ) (t : List ℕ). laid b p t) e (c.code_for-code.ensures ∙ ap (λ (p : ℕ). code_for x.key.now x.header.now (take p b)) e)
