use mathlib.Core.Path.{ap, ◌∙◌}
use mathlib.Core.List.{List}
use Prim.Native.Nat.{ℕ}
use lib.ListN.{drop}
use Rattle.lps.specs.Vectors.{bytes}
use Rattle.rounds.specs.Sums.{vec, lowest}
use Rattle.rounds.specs.Rounds.{g_over}
use Rattle.hash.specs.Ahead.{closed_over}
use Rattle.hash.proofs.Laws.{length_over}
use Rattle.hash.proofs.BlockLaws.{bytes_upper}
use Rattle.hash.proofs.close.Goals as goal

pub returns : goal.returns
unfolding closed_over vec lowest
returns c = let a = c.args in
    let cs = a.cs.now in
    let z = vec 0 in
    let x = g_over cs z a.c.h a.c.n in
    c.put_words.ensures
    ∙ ap bytes (c.compress_upper-v.ensures ∙ ap (λ (h : List ℕ). drop 4 (g_over cs z h a.c.sigma)) c.compress_over.ensures)
    ∙ bytes_upper (g_over cs z x a.c.sigma) (length_over cs z x a.c.sigma)
