use Rattle.scripts.proofs.FaultLaws.{check_size, check_lie, check_none, check_last}
use mathlib.Core.Bool.{not}
use mathlib.Core.Path.{ap}
use Rattle.scripts.proofs.check.Goals as goal
use Rattle.scripts.proofs.check.Goals.{then-objects-ne0-via-then-objects-ne0, then-objects-ne0-via-else-objects-ne0+then-not-all_lie}

pub returns-then-objects-ne0 : goal.returns-then-objects-ne0
returns-then-objects-ne0 c =
    elim c.then-objects-ne0.branch [
      | then-objects-ne0-via-then-objects-ne0 w ↦ check_size _ _ w.if-objects-ne0.true
      | then-objects-ne0-via-else-objects-ne0+then-not-all_lie w ↦ check_lie _ _ _ w.all_lie.ensures (ap not w.if-not-all_lie.true)
    ]

pub returns-then-objects-eq0 : goal.returns-then-objects-eq0
returns-then-objects-eq0 c = search check_none

pub returns : goal.returns
returns c = search check_last
