-- Helpers of private contracts only: a script, and a PIN check, in an open transaction. Assumes nothing.
use Rattle.std.specs.Prelude.{ℕ, Bool, true, List, [], drop, Result}
use Rattle.answers.specs.declared.Refusal.{Refusal}
use Rattle.answers.specs.Refusals.{number}
use Rattle.pin.specs.declared.Pin.{Pin}
use Rattle.shapes.specs.declared.command.Command.{Command}
use Rattle.card.specs.declared.Card.{Card}
use Rattle.card.specs.declared.Reply.{Reply}
use Rattle.card.specs.Record.{full_tries, with_tries}
use Rattle.card.specs.Calls.{Verdict, refuse, accept, first_struck, Message, script_checks, pin_checks, accepted_script, spoiled_by, refused_check, plain}

-- the reply by the verdict
abbrev pub script_as : Card → Message → Verdict → Reply
script_as r x (refuse q) = plain (spoiled_by r q) (number q)
script_as r x accept = plain (accepted_script r x) 0

-- what is left of the checks after the phase; after those of shape and instruction; after the code
abbrev pub judged_as : Card → List ℕ → Message → Reply
judged_as r h x = script_as r x (first_struck (drop 1 (script_checks r h x)))

abbrev pub message_with : Result Command Refusal → Bool → Result Pin Refusal → Message
message_with l b x = record { shaped = true; command = l; coded = b; block = x }

abbrev pub obeyed_as : Card → Result Command Refusal → Bool → Result Pin Refusal → Reply
obeyed_as r l b x = script_as r (message_with l b x) (first_struck (drop 4 (script_checks r [] (message_with l b x))))

abbrev pub taken_as : Card → Result Command Refusal → Result Pin Refusal → Reply
taken_as r l x = script_as r (message_with l true x) (first_struck (drop 6 (script_checks r [] (message_with l true x))))

-- a PIN check by the verdict, and what is left of its checks after those that need no block
abbrev pub check_as : Card → Verdict → Reply
check_as r (refuse q) = plain (refused_check r q) (number q)
check_as r accept = plain (with_tries r full_tries) 0

abbrev pub compared_as : Card → Result Pin Refusal → Reply
compared_as r x = check_as r (first_struck (drop 4 (pin_checks r [] x)))
