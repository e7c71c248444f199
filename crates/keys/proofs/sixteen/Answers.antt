use mathlib.Core.Path.{◌≡◌, ◌∙◌}
use native.Mathlib.Omega.{arith}
use Prim.Native.Nat.{◌-◌}
use lib.ListN.{length, take, drop, length-drop}
use lib.Seq.{take_all}
use Rattle.keys.proofs.CardLaws.{sixteen_laid}
use Rattle.keys.proofs.sixteen.Goals as goal

pub returns : goal.returns
returns c = let pan = c.args.pan.now in
    let k = c.saturating_sub.result in
    let n : length (drop k pan) ≡ length pan - k = length-drop k pan in
    let l = length (take (length pan - k) (drop k pan)) in
    sixteen_laid pan c.args.sequence k c.copy_from_slice.new.self (omega arith) (c.copy_from_slice.ensures.after ∙ take_all _ _ (omega arith)) (14 - l) (14 - (14 - l))
    (omega arith) (omega arith) (grind arith) (grind arith)
