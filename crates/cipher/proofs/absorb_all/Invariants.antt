use mathlib.Core.Path.{◌≡◌}
use Rattle.std.specs.Slice.Iter.{chunks_exact_rest, chunks_exact_size}
use Rattle.blocks.specs.Blocks.{absorbed}
use Rattle.cipher.specs.Code.{code_step}
use Rattle.cipher.proofs.absorb_all.Given as goal

abbrev pub invariant-loop-b : goal.invariant-loop-b
invariant-loop-b l =
    (chunks_exact_size l.b-iterator ≡ 8)
    × (absorbed 8 (code_step l.k) l.t (chunks_exact_rest l.b-iterator) ≡ absorbed 8 (code_step l.k) l.initial.t l.m)
