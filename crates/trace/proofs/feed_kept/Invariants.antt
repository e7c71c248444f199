use mathlib.Core.Path.{◌≡◌}
use lib.ListN.{drop}
use Rattle.trace.proofs.FeedLaws.{made}
use Rattle.trace.specs.Feeding.{fed_from, fed}
use Rattle.trace.proofs.feed_kept.Given as goal

abbrev pub invariant-loop-i : goal.invariant-loop-i
invariant-loop-i l = fed_from (made l.held l.line l.count) l.i (drop l.i l.input) ≡ fed (made l.held l.initial.line l.initial.count) l.input
