use native.Mathlib.Omega.{arith}
use mathlib.Core.Path.{refl}
use Prim.Native.Nat.{◌+◌, ◌-◌}
use lib.ListN.{get_or}
use Rattle.cards.proofs.CardLaws.{seed_none, seed_part}
use Rattle.cards.proofs.seed_at.Goals as goal

pub overflow_cast-n : goal.overflow_cast-n
overflow_cast-n c = omega (arith, c.shared_slice_known-1.given c.args.p)

pub returns-then-n-gt19 : goal.returns-then-n-gt19
returns-then-n-gt19 c = let a = c.args in
    seed_none a.cards.now a.p c.requires (omega arith)

pub returns : goal.returns
returns c = let a = c.args in
    let n = get_or a.cards.now a.p 0 in
    seed_part a.cards.now a.p c.requires n (a.p + 1 + n - (a.p + 1)) c.card_seed.result refl (omega arith) (omega arith) c.card_seed.ensures
