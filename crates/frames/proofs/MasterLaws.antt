-- A line that is no frame 00 leaves the master keys. Assumes nothing.
use Prim.Native.Nat.{ℕ}
use mathlib.Core.Path.{◌≡◌, refl}
use mathlib.Core.Bool.{Bool, true, false, cond}
use mathlib.Core.List.{List}
use lib.Dec.{eqb}
use lib.ListN.{length, take, drop, get_or}
use borrow.Author.Tests.{ne_eqb}
use Rattle.card.specs.declared.Card.{Card}
use Rattle.card.specs.Record.{masters}
use Rattle.card.specs.Calls.{Open, IssuerAnswer, Script, Close, Withdraw, Counters, CheckPin, plain, step}
use Rattle.card.proofs.MasterLaws.{masters_stay}
use Rattle.lines.specs.declared.Held.{Held}
use Rattle.lines.specs.Lines.{octets_of, readable}
use Rattle.lines.specs.Answers.{numbered, replied}
use Rattle.frames.specs.Frames.{overlong, called, called_under, calling, calling_under, framed, framed_under, answer_to, answer_to_under}

masters_called : (r : Card) (f : ℕ) (s : List ℕ) → masters (called r f s).card ≡ masters r
unfolding called_under overlong
masters_called r f s = go (eqb f 1) (eqb f 2) (eqb f 3) (eqb f 4) (eqb f 5) (eqb f 6) (eqb (length s) 0)
  where
    go : (a b c d e g z : Bool)
        → masters
        (cond a (step r (Open s))
        (cond b (step r (IssuerAnswer (take 8 s) (drop 8 s)))
        (cond c (step r (Script (take 4 s) (drop 4 s)))
        (cond d (cond z (step r Close) (overlong r)) (cond e (cond z (step r Withdraw) (plain r 1)) (cond g (cond z (step r Counters) (overlong r)) (step r (CheckPin s)))))))).card
        ≡ masters r
    go true b c d e g z = masters_stay r (Open s)
    go false true c d e g z = masters_stay r (IssuerAnswer (take 8 s) (drop 8 s))
    go false false true d e g z = masters_stay r (Script (take 4 s) (drop 4 s))
    go false false false true e g true = masters_stay r Close
    go false false false true e g false = refl
    go false false false false true g true = masters_stay r Withdraw
    go false false false false true g false = refl
    go false false false false false true true = masters_stay r Counters
    go false false false false false true false = refl
    go false false false false false false z = masters_stay r (CheckPin s)

masters_calling : (h : Held) (f : ℕ) (s : List ℕ) → masters (calling h f s).after.card ≡ masters h.card
unfolding calling_under replied
masters_calling h f s = go h.exists
  where
    go : (b : Bool) → masters (cond b (replied f (called h.card f s)) (numbered h 6)).after.card ≡ masters h.card
    go true = masters_called h.card f s
    go false = refl

masters_framed : (h : Held) (f : ℕ) (s : List ℕ) → (f ≡ 0 → ⊥) → masters (framed h f s).after.card ≡ masters h.card
unfolding framed_under
masters_framed h f s n = rw (ne_eqb _ _ n) (masters_calling h f s)

pub masters_answer : (h : Held) (l : List ℕ) → (readable l ≡ true → get_or (octets_of l) 0 0 ≡ 0 → ⊥) → masters (answer_to h l).after.card ≡ masters h.card
unfolding answer_to_under
masters_answer h l n = go (readable l) refl
  where
    go : (b : Bool) → readable l ≡ b → masters (cond b (framed h (get_or (octets_of l) 0 0) (drop 1 (octets_of l))) (numbered h 13)).after.card ≡ masters h.card
    go true e = masters_framed h (get_or (octets_of l) 0 0) (drop 1 (octets_of l)) (n e)
    go false e = refl
