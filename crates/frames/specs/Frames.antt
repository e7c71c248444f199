-- Frames, and the answer to a line (01, The clerk's trace and Numbered refusals). Assumes nothing.
use Rattle.std.specs.Prelude.{ℕ, not, ◌&&◌, ◌||◌, cond, List, eqb, length, take, drop, get_or}
use Rattle.answers.specs.declared.Refusal.TheVariants.{Input, PhaseWrong, Unreadable}
use Rattle.answers.specs.Refusals.{number}
use Rattle.octets.specs.Numbers.{be}
use Rattle.shapes.specs.Rules.{Rules, present}
use Rattle.transaction.specs.Transaction.{is_open}
use Rattle.card.specs.declared.Card.{Card}
use Rattle.card.specs.declared.Reply.{Reply}
use Rattle.card.specs.Record.{full_tries, sound}
use Rattle.card.specs.Calls.{plain, step_under, Open, IssuerAnswer, Script, Close, Withdraw, Counters, CheckPin}
use Rattle.card.specs.Personalise.{blank, personalised}
use Rattle.lines.specs.declared.Held.{Held}
use Rattle.lines.specs.Lines.{octets_of, readable_under}
use Rattle.lines.specs.Answers.{holding, LineAnswer, numbered, replied}

-- the n bytes from a place on
unfoldable pub part : ℕ → ℕ → List ℕ → List ℕ
part at n s = take n (drop at s)

-- "00 personalise (keys AC, SMI, SMC, 96 bytes, counter 2, counter block 8, mark 00 or 01, clear PIN block 8; refusals 1, then 9)";
-- "may have one byte" for the tries "at its end; .. and a frame without it, as in old traces, means three" (Wish 4)
abbrev pub tries_in : List ℕ → ℕ
tries_in s = cond (eqb (length s) 116) (get_or s 115 0) full_tries

unfoldable pub personalised_by_under : Rules → List ℕ → Reply
personalised_by_under k s =
    cond (eqb (length s) 115 || (k.tries_given && eqb (length s) 116))
    (personalised (part 0 32 s) (part 32 32 s) (part 64 32 s) (be (part 96 2 s)) (part 98 8 s) (get_or s 106 0) (part 107 8 s) (tries_in s))
    (plain blank (number Input))

abbrev pub personalised_by : List ℕ → Reply
personalised_by = personalised_by_under present

-- "A second accepted 00 starts a new history"; refused, it leaves the record
unfoldable pub starts : Held → Reply → LineAnswer
starts h p = cond (eqb p.code 0) (numbered (holding p.card) 0) (numbered h p.code)

-- 04 and 06 with bytes after: "phase comes first", then 1
unfoldable pub overlong : Card → Reply
overlong r = plain r (cond (sound r && not (is_open r.transaction.phase)) (number PhaseWrong) (number Input))

-- a frame with no bytes after its first
abbrev pub bare : List ℕ → Reply → Reply → Reply
bare s a b = cond (eqb (length s) 0) a b

-- "01 Open, 02 Issuer answer (ARPC 8, CSU 4), 03 Script, 04 Close, 05 Withdraw, 06 Counters"; "Frame 07 is the new call and carries the block" (Wish 4)
unfoldable pub called_under : Rules → Card → ℕ → List ℕ → Reply
called_under k r f s =
    cond (eqb f 1) (step_under k r (Open s))
    (cond (eqb f 2) (step_under k r (IssuerAnswer (take 8 s) (drop 8 s)))
    (cond (eqb f 3) (step_under k r (Script (take 4 s) (drop 4 s)))
    (cond (eqb f 4) (bare s (step_under k r Close) (overlong r))
    (cond (eqb f 5) (bare s (step_under k r Withdraw) (plain r (number Input)))
    (cond (eqb f 6) (bare s (step_under k r Counters) (overlong r)) (step_under k r (CheckPin s)))))))

abbrev pub called : Card → ℕ → List ℕ → Reply
called = called_under present

-- "Before a record exists, frames 01 to 06 answer 6.", and 07
unfoldable pub calling_under : Rules → Held → ℕ → List ℕ → LineAnswer
calling_under k h f s = cond h.exists (replied f (called_under k h.card f s)) (numbered h (number PhaseWrong))

abbrev pub calling : Held → ℕ → List ℕ → LineAnswer
calling = calling_under present

-- a frame: its first byte, and the rest
unfoldable pub framed_under : Rules → Held → ℕ → List ℕ → LineAnswer
framed_under k h f s = cond (eqb f 0) (starts h (personalised_by_under k s)) (calling_under k h f s)

abbrev pub framed : Held → ℕ → List ℕ → LineAnswer
framed = framed_under present

-- a line
unfoldable pub answer_to_under : Rules → Held → List ℕ → LineAnswer
answer_to_under k h l =
    cond (readable_under k l) (framed_under k h (get_or (octets_of l) 0 0) (drop 1 (octets_of l))) (numbered h (number Unreadable))

abbrev pub answer_to : Held → List ℕ → LineAnswer
answer_to = answer_to_under present
