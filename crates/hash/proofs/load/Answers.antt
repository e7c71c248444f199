use native.Mathlib.Nat.{add-zero}
use native.Mathlib.Omega.{arith}
use Rattle.hash.proofs.BlockLaws.{words_at}
use Rattle.hash.proofs.load.Goals as goal

pub returns : goal.returns
returns c = let a = c.args in
    cc (words_at a.m.now a.p (omega arith), add-zero a.p)
