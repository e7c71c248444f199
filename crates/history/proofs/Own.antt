-- The demands' words for our box. Assumes nothing.
use mathlib.Core.List.{List}
use Rattle.card.specs.declared.Card.{Card}
use Rattle.card.specs.declared.Reply.{Reply}
use Rattle.card.specs.Calls.{Call, step}
use Rattle.history.specs.Run as runs

abbrev pub box : runs.Box
box r c = step r c

abbrev pub any : runs.AnyBox
any = runs.ours

abbrev pub run : Card → List Call → Card
run = runs.run any

abbrev pub history : Card → List Call → runs.History
history = runs.history any

abbrev pub entry : Call → Reply → runs.Entry
entry c a = runs.did c (runs.answer_of a)
