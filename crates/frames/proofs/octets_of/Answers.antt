use native.Mathlib.Omega.{arith}
use lib.ListN.{length-set}
use mathlib.Core.Path.{refl}
use Rattle.frames.proofs.PartLaws.{octets_turn, octets_end}
use Rattle.frames.proofs.octets_of.Goals as goal

pub loop-i-init : goal.loop-i-init
loop-i-init c = (refl, refl)

pub loop-i-preserved : goal.loop-i-preserved
loop-i-preserved c = let l = c.loop-i in
    (simp length-set l.invariant.0, octets_turn _ _ l.i _ (omega arith) (omega arith) c.octet_of.ensures l.invariant.1)

pub returns : goal.returns
returns c = octets_end _ _ _ (omega arith) c.loop-i.invariant.1
