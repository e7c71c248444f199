-- `parts::lay` meets its contract. Assumes nothing.
use mathlib.Core.Path.{refl}
use native.Mathlib.Omega.{arith}
use lib.ListN.{length}
use Rattle.std.proofs.lemmas.Slice.{put_mid-paste}
use Rattle.parts.proofs.lay.Goals as goal

pub returns : goal.returns
returns c = let a = c.args in
    let w = a.w.now in
    put_mid-paste a.p _ a.b.now _ w (length w) c.copy_from_slice.ensures.after (omega arith) refl
