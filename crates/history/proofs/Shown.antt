-- Nothing but a close changes what is kept, and no call changes the keys or the counters that no call names. Assumes nothing.
use Prim.Native.Nat.{ℕ}
use mathlib.Core.Path.{◌≡◌, refl, ap, ◌∙◌}
use mathlib.Core.List.{List, [], ◌∷◌}
use mathlib.Core.Bool.{Bool, true, false, true≢false}
use lib.Dec.{eqb}
use Rattle.card.specs.declared.Card.{Card}
use Rattle.card.specs.declared.Reply.{Reply}
use Rattle.card.specs.Record.{sound, kept}
use Rattle.card.specs.Calls.{Call}
use Rattle.history.proofs.Own.{any, box, run}
use Rattle.history.specs.Run.{frame}
use Rattle.history.specs.Demand3.{any_of, ShownIsKept}
use Rattle.history.proofs.Change.{Change, change, quiet, idle, early, counted, opened, answered, spoiled, differed, took, dropped, closed, withdrew, spared, misread, mistaken, recognised}
use Rattle.history.proofs.Accepted.{unsound_law}
use Rattle.history.proofs.Keeps.{neither}

-- what lasts
pub record Lasting : Type 0 where
  pub ac : List ℕ
  pub smi : List ℕ
  pub smc : List ℕ
  pub authentications : ℕ

abbrev pub lasting : Card → Lasting
lasting r =
    record { ac = r.ac; smi = r.smi; smc = r.smc; authentications = r.counters.authentications }

shown_by : {r : Card} {c : Call} {a : Reply} → eqb (frame c) 4 ≡ false → Change r c a → kept a.card ≡ kept r
shown_by n (quiet q e) = refl
shown_by n (idle e) = refl
shown_by n (early e) = refl
shown_by n counted = refl
shown_by n (opened e) = refl
shown_by n (answered e) = refl
shown_by n (spoiled q e z f) = refl
shown_by n (differed e f) = refl
shown_by n (took a) = refl
shown_by n (dropped e p) = refl
shown_by n (closed e p) = absurd (true≢false n)
shown_by n withdrew = refl
shown_by n (spared q e z) = refl
shown_by n misread = refl
shown_by n mistaken = refl
shown_by n recognised = refl

lasts_by : {r : Card} {c : Call} {a : Reply} → Change r c a → lasting a.card ≡ lasting r
lasts_by (quiet q e) = refl
lasts_by (idle e) = refl
lasts_by (early e) = refl
lasts_by counted = refl
lasts_by (opened e) = refl
lasts_by (answered e) = refl
lasts_by (spoiled q e z f) = refl
lasts_by (differed e f) = refl
lasts_by (took a) = refl
lasts_by (dropped e p) = refl
lasts_by (closed e p) = refl
lasts_by withdrew = refl
lasts_by (spared q e z) = refl
lasts_by misread = refl
lasts_by mistaken = refl
lasts_by recognised = refl

shown_step : (r : Card) (c : Call) → eqb (frame c) 4 ≡ false → kept (box r c).card ≡ kept r
shown_step r c n = go (sound r) refl
  where
    go : (b : Bool) → sound r ≡ b → kept (box r c).card ≡ kept r
    go true s = shown_by n (change r s c)
    go false s = ap (λ (a : Reply). kept a.card) (unsound_law r c s)

stays_step : (r : Card) (c : Call) → lasting (box r c).card ≡ lasting r
stays_step r c = go (sound r) refl
  where
    go : (b : Bool) → sound r ≡ b → lasting (box r c).card ≡ lasting r
    go true s = lasts_by (change r s c)
    go false s = ap (λ (a : Reply). lasting a.card) (unsound_law r c s)

pub shown_is_kept : ShownIsKept any
shown_is_kept r [] e = refl
shown_is_kept r (c ∷ cs) e =
    let n = neither (eqb (frame c) 4) (any_of 4 cs) e in
    shown_is_kept (box r c).card cs n.1 ∙ shown_step r c n.0

pub stays_law : (r : Card) (cs : List Call) → lasting (run r cs) ≡ lasting r
stays_law r [] = refl
stays_law r (c ∷ cs) = stays_law (box r c).card cs ∙ stays_step r c
