-- Demand 3: striking out, and what is shown. Assumes nothing.
use Rattle.std.specs.Prelude.{ℕ, ◌+◌, ◌≡◌, Bool, false, ◌&&◌, ◌||◌, cond, List, [], ◌∷◌, ◌++◌, eqb}
use Rattle.card.specs.Record.{kept}
use Rattle.card.specs.Calls.{Call, Withdraw}
use Rattle.history.specs.Run.{Loading, personalised_with, AnyBox, run, Entry, History, history, calls_of, frame, is_command}

-- "any freshly personalised record": the personalisation is accepted
abbrev pub Fresh : Loading → Type 0
Fresh l = (personalised_with l).code ≡ 0

-- the history without those entries that pass a test and whose places, from 0 on, are chosen
abbrev pub struck : (Entry → Bool) → (ℕ → Bool) → History → History
struck test chosen [] = []
struck test chosen (e ∷ t) = cond (chosen 0 && test e) (struck test (λ n. chosen (n + 1)) t) (e ∷ struck test (λ n. chosen (n + 1)) t)

-- whether any call is of some frame
abbrev pub any_of : ℕ → List Call → Bool
any_of f [] = false
any_of f (c ∷ cs) = eqb (frame c) f || any_of f cs

-- Before: any calls; then calls without a Close or a Withdraw, a withdrawal, and any calls. Of those between, a choice of those that pass a test is
-- struck out
pub record SameButStruck (b : AnyBox) (s : b.State) (before between after : List Call) (test : Entry → Bool) (choice : ℕ → Bool) : Type 0 where
  pub the_record : b.shown (run b s (before ++ (calls_of (struck test choice (history b (run b s before) between)) ++ (Withdraw ∷ after))))
      ≡ b.shown (run b s (before ++ (between ++ (Withdraw ∷ after))))
  pub the_answers : history b s (before ++ (calls_of (struck test choice (history b (run b s before) between)) ++ (Withdraw ∷ after)))
      ≡ history b s before ++ (struck test choice (history b (run b s before) between) ++ history b (run b s (before ++ between)) (Withdraw ∷ after))

-- "Where a transaction ends by withdrawal, striking out any of its accepted commands gives the same record and the same answers to the
-- remaining calls."
abbrev pub StrikeLaw : AnyBox → Type 0
StrikeLaw b =
    (l : Loading) (before between after : List Call) (choice : ℕ → Bool) → Fresh l → any_of 4 between ≡ false → any_of 5 between ≡ false
    → SameButStruck b (b.start l) before between after is_command choice

-- "Our old box then showed a PIN from the new moment beside a block mark from the old one": nothing but a Close changes what is kept; what
-- a Close makes of it the ledger says
abbrev pub ShownIsKept : AnyBox → Type 0
ShownIsKept b = (s : b.State) (cs : List Call) → any_of 4 cs ≡ false → kept (b.shown (run b s cs)) ≡ kept (b.shown s)
