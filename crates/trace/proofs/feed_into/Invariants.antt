use Prim.Native.Nat.{◌-◌, ◌<◌}
use lib.ListN.{length}
use Rattle.card.specs.Record.{masters}
use Rattle.trace.specs.Inner.{Ready}
use Rattle.trace.proofs.FillLaws.{At}
use Rattle.trace.proofs.feed_into.Given as goal

abbrev pub invariant-loop-taken : goal.invariant-loop-taken
invariant-loop-taken l = At l.initial.after l.input l.initial.out l.out l.after l.taken l.written × (length l.input < 18446744073709551616) × (length l.initial.out < 18446744073709551616) × Ready l.ac l.smi l.smc l.have (masters l.after.held.card)

abbrev pub decreases-loop-taken : goal.decreases-loop-taken
decreases-loop-taken l = length l.input - l.taken
