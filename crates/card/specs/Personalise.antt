-- Personalisation (01, The clerk's trace, frame 00; demand 3, "any freshly personalised record"). Assumes nothing.
use Rattle.std.specs.Prelude.{ℕ, false, not, List, [], ◌∷◌, leb, eqb, replicate, is_err}
use Rattle.answers.specs.declared.Refusal.TheVariants.{Input, PinFormat}
use Rattle.answers.specs.Refusals.{number}
use Rattle.pin.specs.declared.Pin.{Pin}
use Rattle.pin.specs.CounterBlock.{counters_of}
use Rattle.pin.specs.Answers.{read_block}
use Rattle.transaction.specs.Transaction.{none}
use Rattle.card.specs.declared.Card.{Card}
use Rattle.card.specs.declared.Reply.{Reply}
use Rattle.card.specs.Record.{full_tries, card_of, counters_at}
use Rattle.card.specs.Calls.{Verdict, refuse, accept, strikes, first_struck, pin_or_none, plain}

-- no record: it has no PIN, so every call refuses it
abbrev pub blank : Card
blank =
    card_of
    (record { ac = replicate 32 0; smi = replicate 32 0; smc = replicate 32 0 })
    (record { pin = replicate 12 0; count = 0; mark = false })
    0
    0
    (counters_at 0 0 0 0)
    none

-- the PIN of a clear block; none where it does not read
abbrev pub pin_in : List ℕ → Pin
pin_in b = pin_or_none (read_block b)

-- keys AC, SMI, SMC, transaction counter, counter block, mark 00 or 01, clear PIN block, tries left
abbrev pub fresh : List ℕ → List ℕ → List ℕ → ℕ → List ℕ → ℕ → List ℕ → ℕ → Card
fresh ac smi smc atc counters mark block tries =
    card_of
    (record { ac = ac; smi = smi; smc = smc })
    (record { pin = (pin_in block).digits; count = (pin_in block).count; mark = eqb mark 1 })
    tries
    atc
    (counters_of counters)
    none

-- "refusals 1, then 9": a mark above 01, tries "above 3" (Wish 4), the format of the PIN block; the other lengths are those of the types
abbrev pub loading : ℕ → List ℕ → ℕ → Verdict
loading mark block tries =
    first_struck
    (strikes (not (leb mark 1)) Input
    ∷ strikes (not (leb tries full_tries)) Input
    ∷ strikes (is_err (read_block block)) PinFormat
    ∷ [])

abbrev pub loaded_by : Card → Verdict → Reply
loaded_by r (refuse q) = plain blank (number q)
loaded_by r accept = plain r 0

unfoldable pub personalised : List ℕ → List ℕ → List ℕ → ℕ → List ℕ → ℕ → List ℕ → ℕ → Reply
personalised ac smi smc atc counters mark block tries = loaded_by (fresh ac smi smc atc counters mark block tries) (loading mark block tries)
