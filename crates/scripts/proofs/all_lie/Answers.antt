use mathlib.Core.Path.{refl, ◌∙◌}
use Prim.Native.Nat.{ℕ, ◌/◌}
use lib.ListN.{length}
use native.Mathlib.Omega.{arith}
use Rattle.std.proofs.Common.{rules, tests}
use Rattle.std.proofs.lemmas.Iterator.{YieldsList-from_range}
use Rattle.std.proofs.lemmas.Iterator.Search.{all_from_yields_List}
use Rattle.scripts.specs.Writing.{lies}
use Rattle.scripts.specs.Inner.{at}
use Rattle.scripts.proofs.WithinLaws.{lie_at, lie_all}
use Rattle.scripts.proofs.all_lie.Goals as goal

pub returns : goal.returns
returns c = let x = c.args in
    all_from_yields_List (λ (i : ℕ). lies x.source.now (at x.objects.now i)) _ _ c.all.result c.all.ensures.ran
    (YieldsList-from_range 0 _ (length x.objects.now / 10) refl (omega arith))
    (λ y b q k. search (lie_at, rules, tests))
    ∙ lie_all x.source.now x.objects.now
