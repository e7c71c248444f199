-- No call changes the master keys; and no words fit every key. Assumes nothing.
use Prim.Native.Nat.{◌-◌}
use mathlib.Core.Path.{◌≡◌, refl}
use mathlib.Core.Bool.{Bool, true, false, cond}
use mathlib.Core.List.{[]}
use lib.Dec.{eqb}
use Rattle.answers.specs.declared.Refusal.{Refusal}
use Rattle.answers.specs.Refusals.{number}
use Rattle.transaction.specs.Transaction.{is_open, none}
use Rattle.card.specs.declared.Card.{Card}
use Rattle.card.specs.Record.{sound, Masters, masters, with_transaction, with_tries, with_counters, one_misread}
use Rattle.card.specs.Calls.{Call, Open, IssuerAnswer, Script, Close, Withdraw, Counters, CheckPin, Verdict, refuse, accept, judged, accepted, spoiled_by, refused, after_by, after, after_under}
use Rattle.card.specs.Words.{FitAll}
use Rattle.card.proofs.CallLaws.{none_fits}

pub none_fit : (m : Masters) → FitAll [] [] [] m
none_fit m = (none_fits m.ac, none_fits m.smi, none_fits m.smc)

by_accepted : (r : Card) (c : Call) → masters (accepted r c) ≡ masters r
by_accepted r (Open d) = refl
by_accepted r (IssuerAnswer arpc csu) = refl
by_accepted r (Script h m) = refl
by_accepted r Close = refl
by_accepted r Withdraw = refl
by_accepted r Counters = refl
by_accepted r (CheckPin b) = refl

either : (r s : Card) (b : Bool) → masters s ≡ masters r → masters (cond b s r) ≡ masters r
either r s true e = e
either r s false e = refl

by_refused : (r : Card) (c : Call) (q : Refusal) → masters (refused r c q) ≡ masters r
by_refused r (Open d) q = refl
by_refused r (IssuerAnswer arpc csu) q = refl
by_refused r (Script h m) q = either r (spoiled_by r q) (is_open r.transaction.phase) refl
by_refused r Close q = either r (with_transaction r none) (eqb (number q) 10) refl
by_refused r Withdraw q = refl
by_refused r Counters q = refl
by_refused r (CheckPin b) q = go (eqb (number q) 9) (eqb (number q) 14)
  where
    go : (x y : Bool) → masters (cond x (with_counters r r.atc (one_misread r.counters)) (cond y (with_tries r (r.tries - 1)) r)) ≡ masters r
    go true y = refl
    go false true = refl
    go false false = refl

by_verdict : (r : Card) (c : Call) (v : Verdict) → masters (after_by r c v) ≡ masters r
by_verdict r c (refuse q) = by_refused r c q
by_verdict r c accept = by_accepted r c

pub masters_stay : (r : Card) (c : Call) → masters (after r c) ≡ masters r
unfolding after_under
masters_stay r c = either r (after_by r c (judged r c)) (sound r) (by_verdict r c (judged r c))
